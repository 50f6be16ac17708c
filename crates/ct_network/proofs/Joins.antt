-- Serials come to the ends of the lines.
use Rattle.std.proofs.Common.{◌≡◌, ◌≢◌, ℕ, ◌+◌, ◌-◌, ◌<◌, ◌≤◌, true, List, [], ◌∷◌, ◌++◌, length, get_or, set, ap, sym}
use Rattle.std.proofs.Common.{◌∙◌, arith, append-nil}
use Rattle.std.proofs.lemmas.List.{get_or-set_same, get_or-set_other, get_or_default, get_or-map, length-map}
use Rattle.std.proofs.lemmas.Bool.{cases_lt}
use Rattle.std.proofs.lemmas.Bool.Decides.{nat_tests}
use Rattle.ct_names.specs.Group.{is_member}
use Rattle.ct_names.proofs.Groups.{member_from_one, member_to_n}
use Rattle.ct_model.specs.Waiting.{serials_to}
use Rattle.ct_model.specs.declared.wire.Wire.{Wire}
use Rattle.ct_model.specs.Wire.{envelopes}
use Rattle.ct_model.specs.declared.mail.Mail.TheVariants.{One, All}
use Rattle.ct_network.specs.WaitingLine.{WaitingLine}
use Rattle.ct_network.specs.Lines.{serials_of}
use Rattle.ct_network.specs.Network.{line_at}
use Rattle.ct_network.proofs.Waiting.{line_there, serials-set}
use Rattle.ct_model.proofs.Basics.Serials.{serials_to-all}

-- one serial joins the line of one member
pub join_one : (lines : List WaitingLine) (to base : ℕ) (w : Wire ℕ) (old new : WaitingLine) → is_member (length lines) to ≡ true →
    old ≡ get_or lines (to - 1) old → new.serials ≡ old.serials ++ (base + 1) ∷ []
    → (q : ℕ) → is_member (length lines) q ≡ true → line_at (serials_of (set lines (to - 1) new)) q ≡ line_at (serials_of lines) q
    ++ serials_to q base (envelopes (length lines) (One to w))
join_one lines to base w old new member is joins q also =
    let low = member_from_one (length lines) to member in
    let high = member_to_n (length lines) to member in
    let low_q = member_from_one (length lines) q also in
    let within : to - 1 < length (serials_of lines) = rw (length-map lines (λ (l : WaitingLine). l.serials)) (omega arith) in
    grind (
      arith,
      nat_tests,
      serials-set lines (to - 1) new,
      get_or-set_same (serials_of lines) (to - 1) new.serials [] within,
      get_or-set_other (serials_of lines) (to - 1) (q - 1) new.serials [],
      line_there lines (to - 1) old (omega arith) is,
      append-nil (line_at (serials_of lines) q),
    )

-- each of the first n lines got one more serial, in turn, after this many
abbrev pub HaveJoined : (old new : List WaitingLine) (base n : ℕ) → Type 0
HaveJoined old new base n = (k : ℕ) (d : WaitingLine) → k < n → (get_or new k d).serials ≡ (get_or old k d).serials ++ (base + k + 1) ∷ []

module _ (old now : List WaitingLine) (i base : ℕ) (new : WaitingLine) (as_many : length now ≡ length old) (within : i < length old)
    (done : HaveJoined old now base i) (rest : (k : ℕ) (d : WaitingLine) → i ≤ k → get_or now k d ≡ get_or old k d) where
  -- one more line has its serial
  pub join_more : (x : WaitingLine) (serial : ℕ) → x ≡ get_or now i x → new.serials ≡ x.serials ++ serial ∷ [] → serial ≡ base + i + 1 →
      HaveJoined old (set now i new) base (i + 1)
  join_more x serial is joins at k d h =
      let before : x ≡ get_or old i d = is ∙ get_or_default now i x d (omega arith) ∙ rest i d (omega arith) in
      grind (arith, cases_lt k i, get_or-set_other now i k new d, get_or-set_same now i new d (omega arith), done k d)

  pub join_rest : (k : ℕ) (d : WaitingLine) → i + 1 ≤ k → get_or (set now i new) k d ≡ get_or old k d
  join_rest k d h = let other : k ≢ i = omega arith in get_or-set_other now i k new d other ∙ rest k d (omega arith)

-- all of them have theirs
pub joined_all : (old new : List WaitingLine) (base : ℕ) (w : Wire ℕ) → length new ≡ length old → HaveJoined old new base (length old) →
    (q : ℕ) → is_member (length old) q ≡ true → line_at (serials_of new) q ≡ line_at (serials_of old) q
    ++ serials_to q base (envelopes (length old) (All w))
joined_all old new base w as_many done q member =
    let low : 1 ≤ q = member_from_one (length old) q member in
    let high : q ≤ length old = member_to_n (length old) q member in
    let none : WaitingLine = record { serials = []; room = 0 } in
    let same : base + (q - 1) + 1 ≡ base + q = omega arith in
    get_or-map (λ (l : WaitingLine). l.serials) new (q - 1) none [] (omega arith)
    ∙ done (q - 1) none (omega arith)
    ∙ ap (λ s. (get_or old (q - 1) none).serials ++ s ∷ []) same
    ∙ ap (λ ls. ls ++ (base + q) ∷ []) (sym (get_or-map (λ (l : WaitingLine). l.serials) old (q - 1) none [] (omega arith)))
    ∙ ap (λ ks. line_at (serials_of old) q ++ ks) (sym (serials_to-all w (length old) q base low high))
