-- Sessions byte by byte are sessions line by line.
use Rattle.std.proofs.Common.{◌≡◌, ◌⊎◌, inl, inr, ℕ, ◌<◌, Bool, true, false, List, [], ◌∷◌, ◌++◌, length, refl, ap, sym, ◌∙◌, subst}
use Rattle.std.proofs.Common.{append_assoc, append-nil, length-append, arith}
use Rattle.std.proofs.Math.Bool.{or_assoc}
use Rattle.std.proofs.lemmas.Bool.Decides.{nat_tests}
use Rattle.std.proofs.lemmas.List.Splits.{length-slice_split}
use Rattle.std.specs.Prelude.{◌==◌, ◌||◌, nat_lt, if◌then◌else◌}
use Rattle.std.specs.List.{concat, onto_first, slice_split}
use Rattle.ct_model.proofs.Basics.Tests.{or_false}
use Rattle.ct_grammar.specs.Texts.{is_feed, lines_of}
use Rattle.ct_judge.specs.Answers.{answer, is_refused, standing_after}
use Rattle.ct_judging.specs.Reading.{line_in}
use Rattle.ct_judge.specs.Sessions.{Hearing, Session, answer_at, at_end, kept, line_if, line_over, opening, said_first, session}
use Rattle.ct_judging.specs.Standing.{Standing}
use Rattle.ct_judge.specs.declared.session.TheConstants.{LONGEST}
use Rattle.ct_laws.specs.Sessions.{answers, but_nothing, is_any_refused, last_line, lines_heard}
use Rattle.ct_laws.proofs.Cases.{if_either}

-- ---- the lines of an input, of which the first has begun

abbrev pub lines_behind : List ℕ → List ℕ → List (List ℕ)
lines_behind line [] = line ∷ []
lines_behind line (byte ∷ bytes) = if byte == 10 then line ∷ lines_behind [] bytes else lines_behind (line ++ byte ∷ []) bytes

-- the first line begins with this
abbrev begun : List ℕ → List (List ℕ) → List (List ℕ)
begun line [] = []
begun line (first ∷ lines) = (line ++ first) ∷ lines

begun_nothing : (lines : List (List ℕ)) → begun [] lines ≡ lines
begun_nothing [] = refl
begun_nothing (line ∷ lines) = refl

begun_more : (line : List ℕ) (byte : ℕ) (lines : List (List ℕ)) → 0 < length lines →
    begun (line ++ byte ∷ []) lines ≡ begun line (onto_first byte lines)
begun_more line byte [] some = absurd (omega arith)
begun_more line byte (first ∷ lines) some = ap (λ l. l ∷ lines) (append_assoc line (byte ∷ []) first)

behind_byte : (c : Bool) (line : List ℕ) (byte : ℕ) (bytes : List ℕ) → lines_behind [] bytes ≡ begun [] (slice_split is_feed bytes) →
    lines_behind (line ++ byte ∷ []) bytes ≡ begun (line ++ byte ∷ []) (slice_split is_feed bytes) →
    (if c then line ∷ lines_behind [] bytes else lines_behind (line ++ byte ∷ []) bytes)
    ≡ begun line (if c then [] ∷ slice_split is_feed bytes else onto_first byte (slice_split is_feed bytes))
behind_byte true line byte bytes new on =
    ap (λ l. line ∷ l) (new ∙ begun_nothing (slice_split is_feed bytes))
    ∙ ap (λ l. l ∷ slice_split is_feed bytes) (sym (append-nil line))
behind_byte false line byte bytes new on =
    on ∙ begun_more line byte (slice_split is_feed bytes) (omega (arith, length-slice_split is_feed bytes))

behind : (bytes line : List ℕ) → lines_behind line bytes ≡ begun line (slice_split is_feed bytes)
behind [] line = ap (λ l. l ∷ []) (sym (append-nil line))
behind (byte ∷ bytes) line =
    behind_byte (byte == 10) line byte bytes (behind bytes []) (behind bytes (line ++ byte ∷ []))

pub lines_whole : (input : List ℕ) → lines_of input ≡ lines_behind [] input
unfolding lines_of
lines_whole input = sym (behind input [] ∙ begun_nothing (slice_split is_feed input))

pub lines_are : (input : List ℕ) → lines_heard input ≡ but_nothing (lines_behind [] input)
unfolding lines_heard
lines_are input = ap but_nothing (lines_whole input)

-- some line is the last one
one_over : (bytes line m : List ℕ) → but_nothing (line ∷ lines_behind m bytes) ≡ line ∷ but_nothing (lines_behind m bytes)
one_over [] line m = refl
one_over (byte ∷ bytes) line m =
    if_either (λ lines. but_nothing (line ∷ lines) ≡ line ∷ but_nothing lines) (byte == 10) (m ∷ lines_behind [] bytes)
    (lines_behind (m ++ byte ∷ []) bytes) refl (one_over bytes line (m ++ byte ∷ []))

-- ---- lines that are too long

-- this is kept of the line: all of it, or more than a line may have
IsKept : List ℕ → List ℕ → Type 0
IsKept line whole = (line ≡ whole) ⊎ ((nat_lt LONGEST (length line) ≡ true) × (nat_lt LONGEST (length whole) ≡ true))

longer : (n : ℕ) (line : List ℕ) (byte : ℕ) → nat_lt n (length line) ≡ true → nat_lt n (length (line ++ byte ∷ [])) ≡ true
longer n line byte h = grind (arith, nat_tests, length-append line (byte ∷ []))

same_on : (c : Bool) (line : List ℕ) (byte : ℕ) → nat_lt LONGEST (length line) ≡ c →
    IsKept (if c then line else line ++ byte ∷ []) (line ++ byte ∷ [])
unfolding IsKept
same_on true line byte h = inr (h, longer LONGEST line byte h)
same_on false line byte h = inl refl

kept_on : (line whole : List ℕ) (byte : ℕ) → IsKept line whole → IsKept (kept line byte) (whole ++ byte ∷ [])
unfolding IsKept kept
kept_on line whole byte (inl same) =
    subst (λ l. IsKept (kept line byte) (l ++ byte ∷ [])) same (same_on (nat_lt LONGEST (length line)) line byte refl)
kept_on line whole byte (inr long) =
    inr (
      subst (λ c. nat_lt LONGEST (length (if c then line else line ++ byte ∷ [])) ≡ true) (sym long.0) long.0,
      longer LONGEST whole byte long.1,
    )

both_long : {A : Type 0} (c d : Bool) (x a b : A) → c ≡ true → d ≡ true → (if c then x else a) ≡ (if d then x else b)
both_long c d x a b h k = grind arith

same_line : (line whole : List ℕ) → IsKept line whole → line_if line ≡ line_if whole
unfolding IsKept line_if
same_line line whole (inl same) = ap line_if same
same_line line whole (inr long) =
    both_long (nat_lt LONGEST (length line)) (nat_lt LONGEST (length whole)) _ (line_in line) (line_in whole) long.0 long.1

-- ---- line by line

-- where a session stands after these lines
abbrev pub standing_behind : Standing → List (List ℕ) → Standing
standing_behind s [] = s
standing_behind s (line ∷ lines) = standing_behind (standing_after s (line_if line)) lines

-- the session has these lines
pub record IsByLine (t : Hearing) (lines : List (List ℕ)) (s : Session) : Type 0 where
  pub text : s.text ≡ concat (answers t.standing lines)
  pub refused : s.hearing.refused ≡ (t.refused || is_any_refused t.standing lines)
  pub standing : s.hearing.standing ≡ standing_behind t.standing lines

-- the last line
last_over : (t : Hearing) (line : List ℕ) → line_if t.line ≡ line_if line →
    IsByLine t (line ∷ []) (record { text = answer_at t; hearing = line_over t })
unfolding answer_at line_over
last_over t line same = record {
  text = ap (answer t.standing) same ∙ sym (append-nil (answer t.standing (line_if line)));
  refused = ap (λ r. t.refused || is_refused t.standing r) same
      ∙ ap (λ b. t.refused || b) (sym (or_false (is_refused t.standing (line_if line))));
  standing = ap (standing_after t.standing) same;
}

nothing_over : (t : Hearing) → IsByLine t [] (record { text = []; hearing = t })
nothing_over t = record { text = refl; refused = sym (or_false t.refused); standing = refl }

never_long : (P : Type 0) → nat_lt LONGEST 0 ≡ true → P
never_long P h = absurd (cc h)

at_last : (t : Hearing) (line whole : List ℕ) → t.line ≡ line → IsKept line whole → IsByLine t (last_line whole) (at_end t line)
unfolding IsKept
at_last t [] [] is kept = nothing_over t
at_last t [] (byte ∷ bytes) is (inl same) = absurd (cc)
at_last t [] (byte ∷ bytes) is (inr long) = never_long (IsByLine t (last_line (byte ∷ bytes)) (at_end t [])) long.0
at_last t (byte ∷ bytes) [] is (inl same) = absurd (cc)
at_last t (byte ∷ bytes) [] is (inr long) = never_long (IsByLine t (last_line []) (at_end t (byte ∷ bytes))) long.1
at_last t (byte ∷ bytes) (first ∷ rest) is kept =
    last_over t (first ∷ rest) (ap line_if is ∙ same_line (byte ∷ bytes) (first ∷ rest) kept)

-- one line more
one_more : (t : Hearing) (line : List ℕ) (lines : List (List ℕ)) (s : Session) → line_if t.line ≡ line_if line →
    IsByLine (line_over t) lines s → IsByLine t (line ∷ lines) (said_first (answer_at t) s)
unfolding answer_at line_over
one_more t line lines s same h =
    let after = ap (standing_after t.standing) same in
    record {
      text = ap (λ l. answer t.standing (line_if t.line) ++ l) h.text
          ∙ ap (λ r. answer t.standing r ++ concat (answers (standing_after t.standing r) lines)) same;
      refused = h.refused ∙ or_assoc t.refused (is_refused t.standing (line_if t.line))
          (is_any_refused (standing_after t.standing (line_if t.line)) lines)
          ∙ ap (λ r. t.refused || (is_refused t.standing r || is_any_refused (standing_after t.standing r) lines)) same;
      standing = h.standing ∙ ap (λ r. standing_behind (standing_after t.standing r) lines) same;
    }

emptied : (t : Hearing) → IsKept (line_over t).line []
unfolding IsKept line_over
emptied t = inl refl

-- from here on a session of these bytes has their lines
Goes : List ℕ → Type 0
Goes bytes = (t : Hearing) (line : List ℕ) → IsKept t.line line → IsByLine t (but_nothing (lines_behind line bytes)) (session t bytes)

byte_on : (c : Bool) (byte : ℕ) (bytes : List ℕ) → Goes bytes → (t : Hearing) (line : List ℕ) → IsKept t.line line →
    IsByLine t (but_nothing (if c then line ∷ lines_behind [] bytes else lines_behind (line ++ byte ∷ []) bytes))
    (said_first (if c then answer_at t else []) (session (if c then line_over t else record t { line = kept t.line byte }) bytes))
unfolding Goes
byte_on true byte bytes goes t line k =
    subst (λ lines. IsByLine t lines (said_first (answer_at t) (session (line_over t) bytes))) (sym (one_over bytes line []))
    (one_more t line (but_nothing (lines_behind [] bytes)) (session (line_over t) bytes) (same_line t.line line k)
    (goes (line_over t) [] (emptied t)))
byte_on false byte bytes goes t line k =
    let h = goes (record t { line = kept t.line byte }) (line ++ byte ∷ []) (kept_on t.line line byte k) in
    record { text = h.text; refused = h.refused; standing = h.standing }

by_line : (bytes : List ℕ) → Goes bytes
unfolding Goes
by_line [] t line k = at_last t t.line line refl k
by_line (byte ∷ bytes) t line k = byte_on (byte == 10) byte bytes (by_line bytes) t line k

pub session_is : (input : List ℕ) → IsByLine opening (lines_heard input) (session opening input)
unfolding Goes IsKept
session_is input =
    subst (λ lines. IsByLine opening lines (session opening input)) (sym (lines_are input)) (by_line input opening [] (inl refl))
