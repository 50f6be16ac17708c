-- Bytes read one after another.
use Rattle.std.proofs.Common.{◌≡◌, ℕ, ◌+◌, ◌<◌, ◌≤◌, List, [], ◌∷◌, ◌++◌, length, take, drop, get_or, Result, Ok, Err, Some}
use Rattle.std.proofs.Common.{suc, refl, sym, ap, ◌∙◌, subst, arith, append_assoc, length-append, if◌then◌else◌, nat_lt, le-ltb}
use Rattle.std.proofs.Common.{Bool}
use Rattle.std.proofs.lemmas.Bool.{ne_eqb}
use Rattle.std.proofs.lemmas.List.{append-nil, take-append-drop, take-append-le, take_all, take_more}
use Rattle.ct_order.specs.declared.act.Act.{Act}
use Rattle.ct_order.specs.declared.clash.Clash.{Clash}
use Rattle.ct_order.specs.declared.limits.TheConstants.{MAX_LINE}
use Rattle.ct_order.specs.declared.line.Line.{Line}
use Rattle.ct_order.specs.declared.no_line.NoLine.TheVariants.{Long}
use Rattle.ct_order.specs.declared.standing.Standing.{Standing}
use Rattle.ct_order.specs.declared.stop.Stop.{Stop}
use Rattle.ct_order.specs.declared.stop.Stop.TheVariants as stop
use Rattle.ct_order.specs.declared.table.Table.{Table}
use Rattle.ct_order.specs.Knowing.{KnowsTable, Tells, is_said}
use Rattle.ct_order.specs.Lines.{after_act, next_number}
use Rattle.ct_order.specs.Orders.{IsClash, Said}
use Rattle.ct_order.specs.Scanning.{Fault, Scanned, Scanning, after_byte, after_bytes, after_line, go_on, joined, said_by}
use Rattle.ct_order.specs.Taking.{IsConflictOf, IsUnreadOf, MovesLine, Stops, Takes, fault_of, said_in, said_of}

-- ---- bytes behind bytes

joined_nil : (r : Result Scanned Fault) → joined [] r ≡ r
joined_nil (Err u) = refl
joined_nil (Ok r) = refl

joined_joined : (a b : List Said) (r : Result Scanned Fault) → joined (a ++ b) r ≡ joined a (joined b r)
joined_joined a b (Err u) = refl
joined_joined a b (Ok r) = ap (λ (s : List Said). joined [] (Ok (record r { said = s }))) (append_assoc a b r.said)

joined_go : (a : List Said) (q : Result Scanned Fault) (g : Scanning → Result Scanned Fault) →
    go_on (joined a q) g ≡ joined a (go_on q g)
joined_go a (Err u) g = refl
joined_go a (Ok q) g = joined_joined a q.said (g q.scan)

go_go : (r : Result Scanned Fault) (f g : Scanning → Result Scanned Fault) → go_on (go_on r f) g ≡ go_on r (λ t. go_on (f t) g)
go_go (Err u) f g = refl
go_go (Ok r) f g = joined_go r.said (f r.scan) g

pub after_append : (log : ℕ) (s : Scanning) (xs ys : List ℕ) →
    after_bytes log s (xs ++ ys) ≡ go_on (after_bytes log s xs) (λ t. after_bytes log t ys)
after_append log s [] ys = sym (joined_nil (after_bytes log s ys))
after_append log s (b ∷ xs) ys =
    (λ i. go_on (after_byte log s b) (λ t. after_append log t xs ys i))
    ∙ sym (go_go (after_byte log s b) (λ t. after_bytes log t xs) (λ t. after_bytes log t ys))

-- behind one byte there is what the byte came to
one_byte : (log : ℕ) (s : Scanning) (b : ℕ) (t : Scanning) (said : List Said) → after_byte log s b ≡ Ok (record { scan = t; said = said }) →
    after_bytes log s (b ∷ []) ≡ Ok (record { scan = t; said = said })
one_byte log s b t said e =
    ap (λ r. go_on r (λ t. after_bytes log t [])) e
    ∙ ap (λ (l : List Said). joined [] (Ok (record { scan = t; said = l }))) (append-nil said)

one_fault : (log : ℕ) (s : Scanning) (b : ℕ) (u : Fault) → after_byte log s b ≡ Err u → after_bytes log s (b ∷ []) ≡ Err u
one_fault log s b u e = ap (λ r. go_on r (λ t. after_bytes log t [])) e

-- ---- what is taken

knows_none : (old : Table) (seen : List Said) → KnowsTable old seen → KnowsTable old (seen ++ [])
knows_none old seen h = subst (λ (l : List Said). KnowsTable old l) (sym (append-nil seen)) h

pub takes_none : (log : ℕ) (s : Scanning) (old : Table) → Takes log s old [] s old
takes_none log s old = record { said = []; is = refl; learns = knows_none old }

-- first these bytes, and then those
module _ (log : ℕ) (s : Scanning) (old : Table) (xs : List ℕ) (t : Scanning) (mid : Table) (a : Takes log s old xs t mid) where
  then_is : (ys : List ℕ) → after_bytes log s (xs ++ ys) ≡ joined a.said (after_bytes log t ys)
  then_is ys = after_append log s xs ys ∙ ap (λ r. go_on r (λ t. after_bytes log t ys)) a.is

  pub takes_more : (ys : List ℕ) (u : Scanning) (new : Table) → Takes log t mid ys u new → Takes log s old (xs ++ ys) u new
  takes_more ys u new b = record {
    said = a.said ++ b.said;
    is = then_is ys ∙ ap (joined a.said) b.is;
    learns = λ seen h.
        subst (λ (l : List Said). KnowsTable new l) (append_assoc seen a.said b.said) (b.learns (seen ++ a.said) (a.learns seen h));
  }

  -- the bytes of both, up to some of those behind
  take_both : (ys : List ℕ) (n : ℕ) → take (length xs + n) (xs ++ ys) ≡ xs ++ take n ys
  take_both ys n = taken xs ys n
    where
      taken : (xs ys : List ℕ) (n : ℕ) → take (length xs + n) (xs ++ ys) ≡ xs ++ take n ys
      taken [] ys n = ap (λ m. take m ys) (let e : 0 + n ≡ n = omega arith in e)
      taken (x ∷ xs) ys n =
          ap (λ m. take m (x ∷ (xs ++ ys))) (let e : length (x ∷ xs) + n ≡ suc (length xs + n) = omega arith in e)
          ∙ ap (λ l. x ∷ l) (taken xs ys n)

  pub stops_more : (ys : List ℕ) (why : Stop) → Stops log t mid ys why → Stops log s old (xs ++ ys) why
  stops_more ys (stop.Line u) e = then_is ys ∙ ap (joined a.said) e
  stops_more ys (stop.Clash c) e = record {
    count = length xs + e.count;
    within = let w = e.within in omega (arith, length-append xs ys);
    conflict = record {
      said = a.said ++ e.conflict.said;
      scan = e.conflict.scan;
      is = ap (after_bytes log s) (take_both ys e.count) ∙ (then_is (take e.count ys) ∙ (ap (joined a.said) e.conflict.is
          ∙ ap (λ (l : List Said). joined [] (Ok (record { scan = e.conflict.scan; said = l })))
          (sym (append_assoc a.said e.conflict.said (said_of c ∷ [])))));
      clashes = λ seen h.
          subst (λ (l : List Said). IsClash l (said_of c) c.clash) (append_assoc seen a.said e.conflict.said)
          (e.conflict.clashes (seen ++ a.said) (a.learns seen h));
    };
  }
  stops_more ys (stop.File place why) e = tt
  stops_more ys stop.Memory e = tt

-- a fault in the first bytes is one of all
pub stops_rest : (log : ℕ) (s : Scanning) (old : Table) (xs ys : List ℕ) (why : Stop) → Stops log s old xs why →
    Stops log s old (xs ++ ys) why
stops_rest log s old xs ys (stop.Line u) e = after_append log s xs ys ∙ ap (λ r. go_on r (λ t. after_bytes log t ys)) e
stops_rest log s old xs ys (stop.Clash c) e = record {
  count = e.count;
  within = let w = e.within in omega (arith, length-append xs ys);
  conflict = record {
    said = e.conflict.said;
    scan = e.conflict.scan;
    is = ap (after_bytes log s) (take-append-le e.count xs ys e.within) ∙ e.conflict.is;
    clashes = e.conflict.clashes;
  };
}
stops_rest log s old xs ys (stop.File place why) e = tt
stops_rest log s old xs ys stop.Memory e = tt

-- ---- bytes in a loop

module _ (log : ℕ) (s : Scanning) (old : Table) (bytes : List ℕ) (i : ℕ) (t : Scanning) (mid : Table)
    (a : Takes log s old (take i bytes) t mid) where
  pub takes_next : (u : Scanning) (new : Table) → i < length bytes → Takes log t mid (get_or bytes i 0 ∷ []) u new →
      Takes log s old (take (i + 1) bytes) u new
  takes_next u new lt b =
      subst (λ (l : List ℕ). Takes log s old l u new) (sym (take_more bytes i 0 lt))
      (takes_more log s old (take i bytes) t mid a (get_or bytes i 0 ∷ []) u new b)

  pub stops_next : (why : Stop) → i < length bytes → Stops log t mid (get_or bytes i 0 ∷ []) why → Stops log s old bytes why
  stops_next why lt b =
      subst (λ (l : List ℕ). Stops log s old l why)
      (ap (λ l. l ++ drop (i + 1) bytes) (sym (take_more bytes i 0 lt)) ∙ take-append-drop (i + 1) bytes)
      (stops_rest log s old (take i bytes ++ get_or bytes i 0 ∷ []) (drop (i + 1) bytes) why
      (stops_more log s old (take i bytes) t mid a (get_or bytes i 0 ∷ []) why b))

  pub takes_all : length bytes ≤ i → Takes log s old bytes t mid
  takes_all few = subst (λ (l : List ℕ). Takes log s old l t mid) (take_all i bytes few) a

-- ---- a byte

-- what a byte comes to that is no line feed
over : Scanning → ℕ → Bool → Result Scanned Fault
over s b c =
    if c
    then Ok (record { scan = record s { pending = s.pending ++ b ∷ [] }; said = [] })
    else Err (record { line = next_number s.standing; why = Long })

other_byte : (log : ℕ) (s : Scanning) (b : ℕ) → (b ≡ 10 → ⊥) → after_byte log s b ≡ over s b (nat_lt (length s.pending) MAX_LINE)
unfolding over
other_byte log s b ne =
    ap (λ c. if c then after_line log s.standing s.pending else over s b (nat_lt (length s.pending) MAX_LINE)) (ne_eqb b 10 ne)

pub too_long : (log : ℕ) (s : Scanning) (old : Table) (b : ℕ) → (b ≡ 10 → ⊥) → MAX_LINE ≤ length s.pending → (why : Stop) →
    IsUnreadOf (next_number s.standing) Long why → Stops log s old (b ∷ []) why
unfolding over
too_long log s old b ne long (stop.Line u) h =
    one_fault log s b (fault_of u)
    (other_byte log s b ne ∙ (ap (over s b) (le-ltb (length s.pending) MAX_LINE long)
    ∙ (λ i. Err (record { line = sym h.0 i; why = sym h.1 i }))))
too_long log s old b ne long stop.Memory h = tt
too_long log s old b ne long why h = absurd h

-- ---- what a line says

module _ (log : ℕ) (s : Standing) (old : Table) (act : Act) (word : List ℕ) where
  pub said_clash : (line : Line) → is_said line ≡ record { log = log; line = s.count; at = s.at; act = act; word = word } →
      (t : Standing) (new : Table) (clash : Clash) → after_act s act ≡ Ok t →
      Tells old new (is_said line) (Some clash) → (u : Standing) (why : Stop) →
      IsConflictOf line clash why → MovesLine (said_in log s act word) old u new (Err why)
  said_clash line same t new clash e tells u (stop.Clash c) is = record {
    said = [];
    scan = record { standing = t; pending = [] };
    is = ap (said_by log s (record { act = act; word = word })) e
        ∙ (λ i. Ok (record { scan = record { standing = t; pending = [] }; said = sym (is.0 ∙ same) i ∷ [] }));
    clashes = λ seen h.
        subst (λ (k : Clash). IsClash (seen ++ []) (said_of c) k) (sym is.1)
        (subst (λ (r : Said). IsClash (seen ++ []) r clash) (sym is.0)
        (subst (λ (l : List Said). IsClash l (is_said line) clash) (sym (append-nil seen)) (tells seen h)));
  }
  said_clash line same t new clash e tells u stop.Memory is = tt
  said_clash line same t new clash e tells u why is = absurd is
