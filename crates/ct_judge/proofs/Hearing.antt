-- Sessions, byte by byte.
use Rattle.std.proofs.Common.{◌≡◌, ◌+◌, ◌<◌, ◌≤◌, ℕ, List, [], ◌∷◌, ◌++◌, Option, Some, None, refl, ap, sym, subst, ◌∙◌}
use Rattle.std.proofs.Common.{append_assoc, append-nil, length, length-append, take, drop, get_or, arith}
use Rattle.std.proofs.lemmas.List.{at_drop_more, take-append-drop}
use Rattle.std.proofs.Math.Seq.{take-append_seam}
use Rattle.std.specs.Prelude.{OnErr, Result, Ok, Err, ⊤}
use Rattle.std.specs.Io.KnownBytes.{Appends, Consumes, IsAtEnd}
use Rattle.ct_streams.specs.Streams.{WritesPart}
use Rattle.ct_judge.specs.Sessions.{Hearing, SaysPart, Session, after_byte, after_bytes, at_end, opening}
use Rattle.ct_judge.specs.Sessions.{said_at, said_by}
use Rattle.ct_judge.specs.Sessions.{said_first, session}

-- ---- what is written

pub on_err : {T E : Type 0} {P : Type 0} (r : Result T E) → P → OnErr r P
on_err (Ok x) h = tt
on_err (Err e) h = h

pub on_err_more : {T E : Type 0} {P Q : Type 0} (r : Result T E) → (P → Q) → OnErr r P → OnErr r Q
on_err_more (Ok x) f h = tt
on_err_more (Err e) f h = f h

appends_more : (old mid new : Option (List ℕ)) (bs cs : List ℕ) → Appends old mid bs → Appends mid new cs → Appends old new (bs ++ cs)
appends_more None mid new bs cs a b = tt
appends_more (Some xs) None new bs cs a b = absurd a
appends_more (Some xs) (Some ys) None bs cs a b = b
appends_more (Some xs) (Some ys) (Some zs) bs cs a b = b ∙ ap (λ t. t ++ cs) a ∙ append_assoc xs bs cs

pub wrote_nothing : (old : Option (List ℕ)) → Appends old old []
wrote_nothing None = tt
wrote_nothing (Some xs) = sym (append-nil xs)

pub nothing_part : (old : Option (List ℕ)) (whole : List ℕ) → WritesPart old old whole
nothing_part old whole = (0, wrote_nothing old)

-- what was written, and then some first bytes of what comes next
pub part_more : (old mid new : Option (List ℕ)) (said next later whole : List ℕ) → Appends old mid said → WritesPart mid new next →
    whole ≡ said ++ (next ++ later) → WritesPart old new whole
part_more old mid new said next later whole a part is =
    let n = part.0 in
    let front = said ++ take n next in
    let parts : whole ≡ front ++ (drop n next ++ later) =
    is ∙ ap (λ l. said ++ (l ++ later)) (sym (take-append-drop n next))
    ∙ ap (λ l. said ++ l) (append_assoc (take n next) (drop n next) later)
    ∙ sym (append_assoc said (take n next) (drop n next ++ later)) in
    let first : take (length front) whole ≡ front = ap (take (length front)) parts ∙ take-append_seam front (drop n next ++ later) in
    (length front, subst (Appends old new) (sym first) (appends_more old mid new said (take n next) a part.1))

pub part_only : (old new : Option (List ℕ)) (said later whole : List ℕ) → Appends old new said → whole ≡ said ++ later →
    WritesPart old new whole
part_only old new said later whole a is = part_more old new new said [] later whole a (0, wrote_nothing new) is

-- ---- the bytes of one read

-- of these answers some were written, then some wait, and the rest comes later
pub record IsAnswering (old new : Option (List ℕ)) (waiting rest whole : List ℕ) : Type 0 where
  pub written : List ℕ
  pub is : whole ≡ written ++ (waiting ++ rest)
  pub wrote : Appends old new written

pub answers_byte : (old new : Option (List ℕ)) (t next : Hearing) (waiting more bytes whole : List ℕ) (i : ℕ) → i < length bytes →
    next ≡ after_byte t (get_or bytes i 0) → more ≡ waiting ++ said_at t (get_or bytes i 0) →
    IsAnswering old new waiting (said_by t (drop i bytes)) whole → IsAnswering old new more (said_by next (drop (i + 1) bytes)) whole
answers_byte old new t next waiting more bytes whole i within after said h =
    let byte = get_or bytes i 0 in
    let later = drop (i + 1) bytes in
    record {
      written = h.written;
      is = h.is ∙ ap (λ l. h.written ++ (waiting ++ l)) (at_drop_more (said_by t) bytes i 0 within)
          ∙ ap (λ l. h.written ++ l) (sym (append_assoc waiting (said_at t byte) (said_by (after_byte t byte) later)))
          ∙ ap (λ (v : Hearing). h.written ++ ((waiting ++ said_at t byte) ++ said_by v later)) (sym after)
          ∙ ap (λ l. h.written ++ (l ++ said_by next later)) (sym said);
      wrote = h.wrote;
    }

pub after_more : (t next : Hearing) (bytes : List ℕ) (i : ℕ) → i < length bytes → next ≡ after_byte t (get_or bytes i 0) →
    after_bytes t (drop i bytes) ≡ after_bytes next (drop (i + 1) bytes)
after_more t next bytes i within after =
    at_drop_more (after_bytes t) bytes i 0 within ∙ ap (λ (v : Hearing). after_bytes v (drop (i + 1) bytes)) (sym after)

-- those that wait are written
pub answers_written : (old mid new : Option (List ℕ)) (waiting rest whole : List ℕ) → IsAnswering old mid waiting rest whole →
    Appends mid new waiting → IsAnswering old new [] rest whole
answers_written old mid new waiting rest whole h a = record {
  written = h.written ++ waiting;
  is = h.is ∙ sym (append_assoc h.written waiting rest);
  wrote = appends_more old mid new h.written waiting h.wrote a;
}

pub answers_part : (old mid new : Option (List ℕ)) (waiting rest whole : List ℕ) → IsAnswering old mid waiting rest whole →
    WritesPart mid new waiting → WritesPart old new whole
answers_part old mid new waiting rest whole h part = part_more old mid new h.written waiting rest whole h.wrote part h.is

pub answers_stop : (old new : Option (List ℕ)) (waiting rest whole : List ℕ) → IsAnswering old new waiting rest whole →
    WritesPart old new whole
answers_stop old new waiting rest whole h = part_only old new h.written (waiting ++ rest) whole h.wrote h.is

-- ---- the whole session

-- the session of the input is what was said so far, and then that of what is left
abbrev pub IsHeard : Option (List ℕ) → Option (List ℕ) → Hearing → List ℕ → Type 0
IsHeard None left t said = ⊤
IsHeard (Some input) None t said = ⊥
IsHeard (Some input) (Some rest) t said = session opening input ≡ said_first said (session t rest)

-- each of so many reads gave a byte at least
abbrev pub HasGiven : Option (List ℕ) → Option (List ℕ) → ℕ → Type 0
HasGiven None left reads = ⊤
HasGiven (Some input) None reads = ⊥
HasGiven (Some input) (Some rest) reads = reads + length rest ≤ length input

-- that was written, after so many reads
pub record HasHeard (input left : Option (List ℕ)) (t : Hearing) (old new : Option (List ℕ)) (reads : ℕ) : Type 0 where
  pub said : List ℕ
  pub heard : IsHeard input left t said
  pub wrote : Appends old new said
  pub given : HasGiven input left reads

-- ---- at the beginning

heard_nothing : (input : Option (List ℕ)) → IsHeard input input opening []
heard_nothing None = tt
heard_nothing (Some bytes) = refl

given_nothing : (input : Option (List ℕ)) → HasGiven input input 0
given_nothing None = tt
given_nothing (Some bytes) = omega arith

pub begins : (input old : Option (List ℕ)) → HasHeard input input opening old old 0
begins input old = record { said = []; heard = heard_nothing input; wrote = wrote_nothing old; given = given_nothing input }

-- ---- a read more

said_twice : (a b : List ℕ) (s : Session) → said_first a (said_first b s) ≡ said_first (a ++ b) s
said_twice a b s = ap (λ l. record { text = l; hearing = s.hearing }) (sym (append_assoc a b s.text))

session_on : (t : Hearing) (bytes rest : List ℕ) → session t (bytes ++ rest) ≡
    said_first (said_by t bytes) (session (after_bytes t bytes) rest)
session_on t [] rest = refl
session_on t (byte ∷ bytes) rest =
    ap (said_first (said_at t byte)) (session_on (after_byte t byte) bytes rest)
    ∙ said_twice (said_at t byte) (said_by (after_byte t byte) bytes) (session (after_bytes (after_byte t byte) bytes) rest)

heard_more : (input left next : Option (List ℕ)) (t : Hearing) (bytes said : List ℕ) → Consumes left next bytes →
    IsHeard input left t said → IsHeard input next (after_bytes t bytes) (said ++ said_by t bytes)
heard_more None left next t bytes said c h = tt
heard_more (Some input) None next t bytes said c h = absurd h
heard_more (Some input) (Some rest) None t bytes said c h = absurd c
heard_more (Some input) (Some rest) (Some later) t bytes said c h =
    h ∙ ap (λ l. said_first said (session t l)) c ∙ ap (said_first said) (session_on t bytes later)
    ∙ said_twice said (said_by t bytes) (session (after_bytes t bytes) later)

given_more : (input left next : Option (List ℕ)) (bytes : List ℕ) (reads : ℕ) → Consumes left next bytes → 0 < length bytes →
    HasGiven input left reads → HasGiven input next (reads + 1)
given_more None left next bytes reads c some h = tt
given_more (Some input) None next bytes reads c some h = absurd h
given_more (Some input) (Some rest) None bytes reads c some h = absurd c
given_more (Some input) (Some rest) (Some later) bytes reads c some h =
    let more : length rest ≡ length bytes + length later = ap length c ∙ length-append bytes later in
    omega arith

pub hears : (input left next : Option (List ℕ)) (t then : Hearing) (bytes : List ℕ) (old mid new : Option (List ℕ)) (reads : ℕ) →
    Consumes left next bytes → 0 < length bytes → then ≡ after_bytes t bytes → Appends mid new (said_by t bytes) →
    HasHeard input left t old mid reads → HasHeard input next then old new (reads + 1)
hears input left next t then bytes old mid new reads c some after a h = record {
  said = h.said ++ said_by t bytes;
  heard = subst (λ (v : Hearing). IsHeard input next v (h.said ++ said_by t bytes)) (sym after)
      (heard_more input left next t bytes h.said c h.heard);
  wrote = appends_more old mid new h.said (said_by t bytes) h.wrote a;
  given = given_more input left next bytes reads c some h.given;
}

-- some first answers to the bytes of a read
pub hears_part : (input left next : Option (List ℕ)) (t : Hearing) (bytes : List ℕ) (old mid new : Option (List ℕ)) (said : List ℕ) →
    Consumes left next bytes → IsHeard input left t said → Appends old mid said → WritesPart mid new (said_by t bytes) →
    SaysPart input old new
hears_part None left next t bytes old mid new said c h a part = tt
hears_part (Some input) None next t bytes old mid new said c h a part = absurd h
hears_part (Some input) (Some rest) None t bytes old mid new said c h a part = absurd c
hears_part (Some input) (Some rest) (Some later) t bytes old mid new said c h a part =
    let all : (session opening input).text ≡ said ++ (said_by t bytes ++ (session (after_bytes t bytes) later).text) =
    ap (λ (v : Session). v.text)
    (h ∙ ap (λ l. said_first said (session t l)) c ∙ ap (said_first said) (session_on t bytes later)) in
    part_more old mid new said (said_by t bytes) (session (after_bytes t bytes) later).text (session opening input).text a part all

-- ---- a session that is broken off

pub breaks_off : (input left : Option (List ℕ)) (t : Hearing) (said : List ℕ) (old new : Option (List ℕ)) →
    IsHeard input left t said → Appends old new said → SaysPart input old new
breaks_off None left t said old new h a = tt
breaks_off (Some input) None t said old new h a = absurd h
breaks_off (Some input) (Some rest) t said old new h a =
    part_only old new said (session t rest).text (session opening input).text a (ap (λ (v : Session). v.text) h)

-- ---- the end

pub is_at_end : (left next : Option (List ℕ)) → Consumes left next [] → IsAtEnd next → IsAtEnd left
is_at_end None next c e = tt
is_at_end (Some bytes) None c e = absurd c
is_at_end (Some bytes) (Some rest) c e = c ∙ e

pub ends_part : (input left : Option (List ℕ)) (t : Hearing) (said : List ℕ) (old mid new : Option (List ℕ)) → IsAtEnd left →
    IsHeard input left t said → Appends old mid said → WritesPart mid new (at_end t t.line).text → SaysPart input old new
ends_part None left t said old mid new e h first part = tt
ends_part (Some bytes) None t said old mid new e h first part = absurd h
ends_part (Some bytes) (Some rest) t said old mid new e h first part =
    let ending = (at_end t t.line).text in
    let all : (session opening bytes).text ≡ said ++ (ending ++ []) =
    ap (λ (v : Session). v.text) (h ∙ ap (λ l. said_first said (session t l)) e) ∙ ap (λ l. said ++ l) (sym (append-nil ending)) in
    part_more old mid new said ending [] (session opening bytes).text first part all
