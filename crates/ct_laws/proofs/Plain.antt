-- Lines without line feeds, and texts of them.
use Rattle.std.proofs.Common.{◌≡◌, ℕ, Bool, true, false, List, [], ◌∷◌, ◌++◌, refl, ap, sym, ◌∙◌, subst}
use Rattle.std.specs.Prelude.{◌==◌, if◌then◌else◌, ⊤}
use Rattle.std.specs.List.{onto_first, slice_split}
use Rattle.ct_grammar.specs.Texts.{is_feed, lines_of}
use Rattle.ct_laws.specs.Sessions.{but_nothing, last_line, lines_heard, text_of}
use Rattle.ct_laws.proofs.Hearing.{lines_are, lines_behind, lines_whole}

-- ---- lines without line feeds

abbrev pub IsPlain : List ℕ → Type 0
IsPlain [] = ⊤
IsPlain (byte ∷ bytes) = (is_feed byte ≡ false) × IsPlain bytes

abbrev pub ArePlain : List (List ℕ) → Type 0
ArePlain [] = ⊤
ArePlain (line ∷ lines) = IsPlain line × ArePlain lines

plain_on : (line : List ℕ) (byte : ℕ) → is_feed byte ≡ false → IsPlain line → IsPlain (line ++ byte ∷ [])
plain_on [] byte h p = (h, tt)
plain_on (first ∷ line) byte h p = (p.0, plain_on line byte h p.1)

plain_byte : (c : Bool) (line : List ℕ) (byte : ℕ) (bytes : List ℕ) → is_feed byte ≡ c → IsPlain line →
    ((l : List ℕ) → IsPlain l → ArePlain (lines_behind l bytes)) →
    ArePlain (if c then line ∷ lines_behind [] bytes else lines_behind (line ++ byte ∷ []) bytes)
plain_byte true line byte bytes h p more = (p, more [] tt)
plain_byte false line byte bytes h p more = more (line ++ byte ∷ []) (plain_on line byte h p)

plain_behind : (bytes line : List ℕ) → IsPlain line → ArePlain (lines_behind line bytes)
plain_behind [] line p = (p, tt)
plain_behind (byte ∷ bytes) line p = plain_byte (byte == 10) line byte bytes refl p (plain_behind bytes)

plain_last : (line : List ℕ) → IsPlain line → ArePlain (last_line line)
plain_last [] p = tt
plain_last (byte ∷ bytes) p = (p, tt)

plain_but : (lines : List (List ℕ)) → ArePlain lines → ArePlain (but_nothing lines)
plain_but [] p = tt
plain_but (line ∷ []) p = plain_last line p.0
plain_but (line ∷ (next ∷ lines)) p = (p.0, plain_but (next ∷ lines) p.1)

pub plain_lines : (text : List ℕ) → ArePlain (lines_of text)
plain_lines text = subst (λ lines. ArePlain lines) (sym (lines_whole text)) (plain_behind text [] tt)

pub plain_heard : (input : List ℕ) → ArePlain (lines_heard input)
plain_heard input =
    subst (λ lines. ArePlain lines) (sym (lines_are input)) (plain_but (lines_behind [] input) (plain_behind input [] tt))

pub plain_if : (c : Bool) (line : List ℕ) (later : List (List ℕ)) → IsPlain line → ArePlain later →
    ArePlain (if c then later else line ∷ later)
plain_if true line later p ps = ps
plain_if false line later p ps = (p, ps)

-- ---- the lines of a text of lines

-- these lines, and one of nothing behind the last line feed
abbrev pub ended : List (List ℕ) → List (List ℕ)
ended [] = [] ∷ []
ended (line ∷ lines) = line ∷ ended lines

part_byte : (c : Bool) (byte : ℕ) (line : List ℕ) (rest : List ℕ) → c ≡ false →
    slice_split is_feed (line ++ 10 ∷ rest) ≡ line ∷ lines_of rest →
    (if c then [] ∷ slice_split is_feed (line ++ 10 ∷ rest) else onto_first byte (slice_split is_feed (line ++ 10 ∷ rest)))
    ≡ (byte ∷ line) ∷ lines_of rest
part_byte true byte line rest other h = absurd (cc)
part_byte false byte line rest other h = ap (onto_first byte) h

part : (line rest : List ℕ) → IsPlain line → slice_split is_feed (line ++ 10 ∷ rest) ≡ line ∷ lines_of rest
unfolding lines_of
part [] rest p = refl
part (byte ∷ line) rest p = part_byte (is_feed byte) byte line rest p.0 (part line rest p.1)

pub lines_ended : (lines : List (List ℕ)) → ArePlain lines → lines_of (text_of lines) ≡ ended lines
unfolding lines_of
lines_ended [] p = refl
lines_ended (line ∷ lines) p = part line (text_of lines) p.0 ∙ ap (λ l. line ∷ l) (lines_ended lines p.1)
