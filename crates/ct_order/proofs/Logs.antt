-- Logs read one after another.
use Rattle.std.proofs.Common.{◌≡◌, ℕ, Bool, zero, suc, ◌+◌, List, [], ◌∷◌, ◌++◌, length, take, drop, Result, Ok, Err, Some, slice_get, refl}
use Rattle.std.proofs.Common.{sym, ap, ◌∙◌, subst, arith}
use Rattle.std.proofs.Common.{append_assoc}
use Rattle.std.proofs.lemmas.List.{append-nil, take-append-drop}
use Rattle.std.proofs.lemmas.Option.{none-some, same_Some}
use Rattle.ct_order.specs.declared.act.Act.TheVariants.{Deliver}
use Rattle.ct_order.specs.Ending.{AreAtomic, AreNoLogs, Contradict, LackBroadcast}
use Rattle.ct_order.specs.Orders.{HasOrder, IsBroadcast, IsIn, Said, said_at}
use Rattle.ct_order.specs.Reading.{Logs, after_texts, then_logs}
use Rattle.ct_order.specs.Scanning.{Fault, Scanned, after_bytes, beginning, go_on, joined}
use Rattle.ct_order.proofs.Judging.{no_order}
use Rattle.ct_order.proofs.Scanned.{after_append}

zero_plus : (n : ℕ) → 0 + n ≡ n
zero_plus n = omega arith

-- the first log, and those behind it
record Parts (q : Result Scanned Fault) (rest : Result Logs Fault) (l : Logs) : Type 0 where
  first : Scanned
  is : q ≡ Ok first
  later : Logs
  others : rest ≡ Ok later
  all : l ≡ record { said = first.said ++ later.said; ends = first.scan.standing ∷ later.ends }

same_Ok : {A : Type 0} (a b : A) → ◌≡◌ {A = Result A Fault} (Ok a) (Ok b) → a ≡ b
same_Ok a b e = cc

err_ok : {A : Type 0} (u : Fault) (a : A) → ◌≡◌ {A = Result A Fault} (Err u) (Ok a) → ⊥
err_ok u a e = cc

parts : (q : Result Scanned Fault) (rest : Result Logs Fault) (l : Logs) → then_logs q rest ≡ Ok l → Parts q rest l
parts (Err u) rest l e = absurd (err_ok u l e)
parts (Ok r) (Err u) l e = absurd (err_ok u l e)
parts (Ok r) (Ok k) l e = record {
  first = r;
  is = refl;
  later = k;
  others = refl;
  all = sym (same_Ok (record { said = r.said ++ k.said; ends = r.scan.standing ∷ k.ends }) l e);
}

texts_push : (log : ℕ) (texts : List (List ℕ)) (text : List ℕ) (l : Logs) (r : Scanned) → after_texts log texts ≡ Ok l →
    after_bytes (log + length texts) beginning text ≡ Ok r →
    after_texts log (texts ++ text ∷ []) ≡ Ok (record { said = l.said ++ r.said; ends = l.ends ++ r.scan.standing ∷ [] })
texts_push log [] text l r e h =
    let none : record { said = []; ends = [] } ≡ l = same_Ok (record { said = []; ends = [] }) l e in
    ap (λ q. then_logs q (Ok (record { said = []; ends = [] })))
    (ap (λ n. after_bytes n beginning text) (let m : log ≡ log + 0 = omega arith in m) ∙ h)
    ∙ (ap (λ (s : List Said). Ok (record { said = s; ends = r.scan.standing ∷ [] })) (append-nil r.said)
    ∙ ap (λ (k : Logs). Ok (record { said = k.said ++ r.said; ends = k.ends ++ r.scan.standing ∷ [] })) none)
texts_push log (t ∷ ts) text l r e h =
    let p = parts (after_bytes log beginning t) (after_texts (log + 1) ts) l e in
    let i = texts_push (log + 1) ts text p.later r p.others
    (ap (λ n. after_bytes n beginning text) (let m : log + 1 + length ts ≡ log + suc (length ts) = omega arith in m) ∙ h) in
    (λ j. then_logs (p.is j) (i j))
    ∙ (ap (λ (s : List Said). Ok (record { said = s; ends = p.first.scan.standing ∷ (p.later.ends ++ r.scan.standing ∷ []) }))
    (sym (append_assoc p.first.said p.later.said r.said))
    ∙ ap (λ (k : Logs). Ok (record { said = k.said ++ r.said; ends = k.ends ++ r.scan.standing ∷ [] })) (sym p.all))

pub logs_push : (texts : List (List ℕ)) (text : List ℕ) (l : Logs) (r : Scanned) → after_texts 0 texts ≡ Ok l →
    after_bytes (length texts) beginning text ≡ Ok r →
    after_texts 0 (texts ++ text ∷ []) ≡ Ok (record { said = l.said ++ r.said; ends = l.ends ++ r.scan.standing ∷ [] })
logs_push texts text l r e h = texts_push 0 texts text l r e (ap (λ n. after_bytes n beginning text) (zero_plus (length texts)) ∙ h)

-- ---- what one of them says

record Says (log at : ℕ) (texts : List (List ℕ)) (text : List ℕ) (all : List Said) : Type 0 where
  before : Logs
  first : after_texts log (take at texts) ≡ Ok before
  read : Scanned
  is : after_bytes (log + at) beginning text ≡ Ok read
  rest : List Said
  split : all ≡ before.said ++ (read.said ++ rest)

says : (log : ℕ) (texts : List (List ℕ)) (i : ℕ) (text : List ℕ) (l : Logs) → slice_get texts i ≡ Some text →
    after_texts log texts ≡ Ok l → Says log i texts text l.said
says log [] i text l at e = absurd (none-some text at)
says log (t ∷ ts) zero text l at e =
    let p = parts (after_bytes log beginning t) (after_texts (log + 1) ts) l e in
    record {
      before = record { said = []; ends = [] };
      first = refl;
      read = p.first;
      is = (λ j. after_bytes ((let m : log + 0 ≡ log = omega arith in m) j) beginning (sym (same_Some t text at) j)) ∙ p.is;
      rest = p.later.said;
      split = ap (λ (k : Logs). k.said) p.all;
    }
says log (t ∷ ts) (suc i) text l at e =
    let p = parts (after_bytes log beginning t) (after_texts (log + 1) ts) l e in
    let s = says (log + 1) ts i text p.later at p.others in
    record {
      before = record { said = p.first.said ++ s.before.said; ends = p.first.scan.standing ∷ s.before.ends };
      first = λ j. then_logs (p.is j) (s.first j);
      read = s.read;
      is = ap (λ n. after_bytes n beginning text) (let m : log + suc i ≡ log + 1 + i = omega arith in m) ∙ s.is;
      rest = s.rest;
      split = ap (λ (k : Logs). k.said) p.all
          ∙ (ap (λ x. p.first.said ++ x) s.split ∙ sym (append_assoc p.first.said s.before.said (s.read.said ++ s.rest)));
    }

-- ---- what is told of logs that are wrong is not so of those of one atomic broadcast

module _ (texts : List (List ℕ)) (a : AreAtomic texts) where
  pub no_contradiction : Contradict texts → ⊥
  no_contradiction c =
      let s = says 0 texts c.at c.text (record { said = a.0; ends = a.1 }) c.there a.2 in
      let same = same_Ok s.before (record { said = c.said; ends = c.ends }) (sym s.first ∙ c.before) in
      let m = goes_on c.at (take c.count c.text) (drop c.count c.text) (record { scan = c.scan; said = c.new ++ c.this ∷ [] }) s.read
      c.reads (ap (after_bytes c.at beginning) (take-append-drop c.count c.text)
      ∙ (ap (λ n. after_bytes n beginning c.text) (sym (zero_plus c.at)) ∙ s.is)) in
      no_order (c.said ++ c.new) (m.0 ++ s.rest) c.this c.clash c.clashes
      (subst HasOrder
      (s.split ∙ (ap (λ (b : Logs). b.said ++ (s.read.said ++ s.rest)) same ∙ (ap (λ n. c.said ++ (n ++ s.rest)) m.1
      ∙ (ap (λ n. c.said ++ n) (append_assoc (c.new ++ c.this ∷ []) m.0 s.rest ∙ append_assoc c.new (c.this ∷ []) (m.0 ++ s.rest))
      ∙ sym (append_assoc c.said c.new (c.this ∷ (m.0 ++ s.rest))))))) a.3.0)
    where
      goes_on : (log : ℕ) (xs ys : List ℕ) (x r : Scanned) → after_bytes log beginning xs ≡ Ok x →
          after_bytes log beginning (xs ++ ys) ≡ Ok r →
          (more : List Said) × (r.said ≡ x.said ++ more)
      goes_on log xs ys x r e f =
          rest_of (after_bytes log x.scan ys)
          (ap (λ q. go_on q (λ t. after_bytes log t ys)) (sym e) ∙ (sym (after_append log beginning xs ys) ∙ f))
        where
          rest_of : (q : Result Scanned Fault) → joined x.said q ≡ Ok r → (more : List Said) × (r.said ≡ x.said ++ more)
          rest_of (Err u) h = absurd (err_ok u r h)
          rest_of (Ok k) h = (k.said, ap (λ (z : Scanned). z.said) (sym (same_Ok (record k { said = x.said ++ k.said }) r h)))

  pub no_lack : (whole : Bool) → LackBroadcast texts whole → ⊥
  no_lack whole l =
      let one = same_Ok (record { said = a.0; ends = a.1 }) (record { said = l.said; ends = l.ends }) (sym a.2 ∙ l.has_said) in
      let said : a.0 ≡ l.said = ap (λ (k : Logs). k.said) one in
      l.unsent.unsent (subst (λ s. IsBroadcast s l.unsent.word) said (a.3.1 (said_at l.delivery.place l.delivery.at Deliver l.unsent.word)
      (subst (λ s. IsIn (said_at l.delivery.place l.delivery.at Deliver l.unsent.word) s) (sym said) l.unsent.delivers) refl))

  pub are_logs : AreNoLogs texts → ⊥
  are_logs n =
      let s = says 0 texts n.at n.text (record { said = a.0; ends = a.1 }) n.there a.2 in
      err_ok n.fault s.read (sym (ap (λ m. after_bytes m beginning n.text) (zero_plus n.at) ∙ n.reads) ∙ s.is)
