-- The subcommand of words that clap accepts: `help` is answered by a fault.
use Rattle.std.proofs.Common.{arith, ◌≡◌, ◌∙◌, ◌⊎◌, ℕ, Bool, true, false, true≢false, cond, List, [], ◌∷◌, ◌++◌, Option, Some, None}
use Rattle.std.proofs.Common.{option_map, codes, refl, sym, ap, subst, IfSome, IsSomeAnd}
use Rattle.std.proofs.lemmas.Bool.Decides.{nat_tests}
use Rattle.std.specs.Prelude.{fold, is_some}
use Rattle.std.specs.Str.{bytes_eq}
use Rattle.std.proofs.Math.Bool.{or-false}
use Rattle.std.proofs.lemmas.Slice.Eq.{bytes_eq-Decides}
use Rattle.clap.specs.Kinds.{Kinds, or_else}
use Rattle.clap.specs.Walk.{Held, Names, Outcome, Rule, Step, Text, Waiting, Walk, idle, done, waits, next, trailing, subcommand, value}
use Rattle.clap.specs.Walk.{after_flag, after_step, answers_to, bundle, finished, long_or_other, nothing_held, plain_word, settled}
use Rattle.clap.specs.Walk.{short_or_plain, stop_after, subcommand_met, subcommand_or_other, walk, walk_from, walked, walked_from, word_met}
use Rattle.clap.specs.Lexer.{long_of, short_of}
use Rattle.clap.specs.Faults.{built_fault, check_fault, defaults_fault, entered_fault, level_fault, other_fault, settle_fault, step_fault}
use Rattle.clap.specs.Faults.{turn_fault, walk_fault, word_fault}
use Rattle.clap.specs.Simple.{App, Shape, entered, label_of, names_of}
use Rattle.clap.specs.declared.error.kind.ErrorKind.TheVariants.{MissingSubcommand}
use Rattle.clap.proofs.WalkLemmas.{walk_stopped}

or_else_none : (a b : Kinds) → or_else a b ≡ [] → (a ≡ []) × (b ≡ [])
or_else_none [] b e = (refl, e)
or_else_none (k ∷ ks) b e = absurd (cc)

-- ---- what a word steps to

-- the subcommand that the step enters
abbrev entered_by : Step → Option Text
entered_by (subcommand name) = Some name
entered_by value = None
entered_by _ = None

plain_enters : (c : List Rule) (waiting : Waiting) (word : Text) (h : Held) → entered_by (plain_word c waiting word h).1 ≡ None
plain_enters c idle word h = refl
plain_enters c _ word h = refl

flag_enters : (c : List Rule) (waiting : Waiting) (word : Text) (h : Held) (o : Outcome) →
    entered_by (after_flag c waiting word h o).1 ≡ None
flag_enters c waiting word h done = refl
flag_enters c waiting word h (waits id) = refl
flag_enters c waiting word h _ = plain_enters c waiting word h

short_enters : (c : List Rule) (waiting : Waiting) (word : Text) (flags : Option Text) (h : Held) →
    entered_by (short_or_plain c waiting word flags h).1 ≡ None
short_enters c waiting word None h = plain_enters c waiting word h
short_enters c waiting word (Some flags) h = flag_enters c waiting word (bundle c flags h).0 (bundle c flags h).1

long_enters : (c : List Rule) (waiting : Waiting) (word : Text) (p : Option (Text × Option Text)) (h : Held) →
    entered_by (long_or_other c waiting word p h).1 ≡ None
long_enters c waiting word None h = short_enters c waiting word (short_of word) h
long_enters c waiting word (Some p) h = flag_enters c waiting word _ _

other_enters : (c : List Rule) (name : Option Text) (waiting : Waiting) (position : ℕ) (word : Text) (h : Held)
    → entered_by (subcommand_or_other c name waiting position word h).1 ≡ name
other_enters c (Some name) waiting position word h = refl
other_enters c None waiting position word h = go (bytes_eq word (45 ∷ 45 ∷ []))
  where
    go : (b : Bool) → entered_by (cond b (h, trailing position) (long_or_other c waiting word (long_of word) h)).1 ≡ None
    go true = refl
    go false = long_enters c waiting word (long_of word) h

word_enters : (c : List Rule) (names : Names) (is_trailing : Bool) (waiting : Waiting) (position : ℕ) (word : Text) (h : Held)
    → entered_by (word_met c names is_trailing waiting position word h).1 ≡ cond is_trailing None (subcommand_met names waiting word)
word_enters c names true waiting position word h = refl
word_enters c names false waiting position word h = other_enters c (subcommand_met names waiting word) waiting position word h

step_stops : (c : List Rule) (word : Text) (w : Walk) (h : Held) (step : Step) → w.stopped ≡ None →
    (after_step c word w h step).stopped ≡ option_map (λ n. (n, [])) (entered_by step)
step_stops c word w h (next waiting) e = e
step_stops c word w h (trailing position) e = e
step_stops c word w h (subcommand name) e = refl
step_stops c word w h value e = grind (arith, nat_tests)

-- ---- the walk never stops at `help`

-- nothing was entered, or something else than `help`
abbrev IsOther : Option (Text × List Text) → Type 0
IsOther stop = IfSome stop (λ p. bytes_eq p.0 (codes "help") ≡ false)

named_other : (s : Shape) (is_trailing : Bool) (name : Option Text) (word : Text) (h : Held) → s.disable_help_subcommand ≡ false
    → cond is_trailing [] (other_fault s name word h) ≡ [] → IsOther (option_map (λ n. (n, [])) (cond is_trailing None name))
named_other s true name word h enabled e = tt
named_other s false None word h enabled e = tt
named_other s false (Some n) word h enabled e = grind (arith, nat_tests)

turn_other : (s : Shape) (names : Names) (w : Walk) (word : Text) → s.disable_help_subcommand ≡ false → w.stopped ≡ None →
    turn_fault s names w word ≡ []
    → IsOther (walked s.rules names w word).stopped
unfolding walked
turn_other s names w word enabled goes passes =
    let met = word_met s.rules names w.is_trailing w.waiting w.position word w.held in
    let own : or_else (word_fault s names w.is_trailing w.waiting word w.held) (step_fault s w.position met.0 met.1) ≡ [] =
    rw goes at passes in
    let stops : (walked_from s.rules names None w word).stopped
    ≡ option_map (λ n. (n, [])) (cond w.is_trailing None (subcommand_met names w.waiting word)) =
    step_stops s.rules word w met.0 met.1 goes ∙ ap (option_map (λ n. (n, [])))
    (word_enters s.rules names w.is_trailing w.waiting w.position word w.held) in
    let all : (walked_from s.rules names w.stopped w word).stopped
    ≡ option_map (λ n. (n, [])) (cond w.is_trailing None (subcommand_met names w.waiting word)) =
    ap (λ o. (walked_from s.rules names o w word).stopped) goes ∙ stops in
    subst IsOther (sym all) (named_other s w.is_trailing (subcommand_met names w.waiting word) word w.held enabled (or_else_none _ _ own).0)

-- what was entered stays, with the words after it
entered_stays : (c : List Rule) (names : Names) (w : Walk) (p : Text × List Text) (words : List Text) → w.stopped ≡ Some p
    → (fold (walked c names) w words).stopped ≡ Some (p.0, p.1 ++ words)
entered_stays c names w p words e = grind (arith, nat_tests, walk_stopped c names w p.0 p.1 words)

rest_other : (s : Shape) (names : Names) (w : Walk) (rest : List Text) (stop : Option (Text × List Text)) → w.stopped ≡ stop → IsOther stop
    → (w.stopped ≡ None → IsOther (fold (walked s.rules names) w rest).stopped) → IsOther (fold (walked s.rules names) w rest).stopped
rest_other s names w rest None e other goes_on = goes_on e
rest_other s names w rest (Some p) e other goes_on = subst IsOther (sym (entered_stays s.rules names w p rest e)) other

walk_other : (s : Shape) (names : Names) (w : Walk) (words : List Text) → s.disable_help_subcommand ≡ false → w.stopped ≡ None →
    walk_fault s names w words ≡ []
    → IsOther (fold (walked s.rules names) w words).stopped
unfolding walk_fault
walk_other s names w [] enabled goes passes = rw goes tt
walk_other s names w (word ∷ rest) enabled goes passes =
    let parts = or_else_none _ _ passes in
    let after = walked s.rules names w word in
    rest_other s names after rest after.stopped refl (turn_other s names w word enabled goes parts.0)
    (λ e. walk_other s names after rest enabled e parts.1)

-- ---- what clap accepts

ends_none : (a b c d e : Kinds) → or_else a (or_else b (or_else c (or_else d e))) ≡ [] → (a ≡ []) × (e ≡ [])
ends_none a b c d e h =
    let first = or_else_none a (or_else b (or_else c (or_else d e))) h in
    let third = or_else_none c (or_else d e) (or_else_none b (or_else c (or_else d e)) first.1).1 in
    (first.0, (or_else_none d e third.1).1)

-- a level without fault has a walk without fault, and a subcommand where one is required
level_parts : (s : Shape) (names : Names) (h : Held) (words : List Text) (has : Bool) (below : Kinds) → s.arg_required_else_help ≡ false →
    s.subcommand_required ≡ true
    → level_fault s names h words has below ≡ [] → (walk_fault s names (walk_from h) words ≡ []) × (has ≡ true)
level_parts s names h words has below no_help required e =
    let end = (walk s.rules names h words).held in
    let parts = ends_none (walk_fault s names (walk_from h) words) below (settle_fault s.rules s.args_override_self end)
    (defaults_fault (settled s.rules end).rows s.rules) (check_fault s (finished s.rules end) has) e in
    (parts.0, go has parts.1)
  where
    go : (b : Bool) → check_fault s (finished s.rules (walk s.rules names h words).held) b ≡ [] → b ≡ true
    go true f = refl
    go false f =
        let missing : MissingSubcommand ∷ [] ≡ [] = rw (no_help, required) at f in
        absurd (cc)

-- the subcommand that is entered, of three where the last isn't named
entered_first : (a : App) (x y z : Shape) (p : Text × List Text) → a.subs ≡ x ∷ y ∷ z ∷ [] → is_some (entered a (Some p)) ≡ true →
    answers_to p.0 (label_of z) ≡ false
    → IfSome (entered a (Some p)) (λ q. (q.0 ≡ x.name) ⊎ (q.0 ≡ y.name))
entered_first a x y z p subs found other = grind (arith, nat_tests)

both_known : {X : Type 0} (o : Option X) (P : X → Type 0) → is_some o ≡ true → IfSome o P → IsSomeAnd o P
both_known None P found p = absurd (true≢false (sym found))
both_known (Some x) P found p = p

help_unnamed : (word : Text) → bytes_eq word (codes "help") ≡ false → bytes_eq (codes "help") word ≡ false
help_unnamed word e = grind (arith, nat_tests, bytes_eq-Decides (codes "help") word, bytes_eq-Decides word (codes "help"))

-- words without fault name a subcommand, of three where the last is `help`
pub accepted : (a : App) (x y z : Shape) (words : List Text) → a.subs ≡ x ∷ y ∷ z ∷ [] → label_of z ≡ (codes "help", []) →
    a.top.disable_help_subcommand ≡ false
    → a.top.arg_required_else_help ≡ false → a.top.subcommand_required ≡ true → built_fault a nothing_held words ≡ []
    → IsSomeAnd (entered a (stop_after a.top.rules (names_of a) words)) (λ q. (q.0 ≡ x.name) ⊎ (q.0 ≡ y.name))
accepted a x y z words subs help enabled no_help required passes =
    let stop = stop_after a.top.rules (names_of a) words in
    let parts = level_parts a.top (names_of a) nothing_held words (is_some (entered a stop)) (entered_fault a stop) no_help required
    passes in
    go stop (walk_other a.top (names_of a) (walk_from nothing_held) words enabled refl parts.0) parts.1
  where
    go : (o : Option (Text × List Text)) → IsOther o → is_some (entered a o) ≡ true →
        IsSomeAnd (entered a o) (λ q. (q.0 ≡ x.name) ⊎ (q.0 ≡ y.name))
    go None other found = absurd (true≢false (sym found))
    go (Some p) other found =
        let unnamed : answers_to p.0 (label_of z) ≡ false = ap (answers_to p.0) help ∙ (or-false _ ∙ help_unnamed p.0 other) in
        both_known (entered a (Some p)) _ found (entered_first a x y z p subs found unnamed)
