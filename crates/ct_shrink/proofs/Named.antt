-- Lines that are tried go on naming envelopes by what they carry.
use Rattle.std.proofs.Common.{◌≡◌, Bool, true, false, List, [], ◌∷◌, ◌++◌, Option, Some, None, cond, ℕ, suc, take, drop, subst, sym}
use Rattle.std.specs.Prelude.{All, IfSome, is_ok, option_map, remove}
use Rattle.std.specs.Option.{option_or}
use Rattle.std.proofs.lemmas.List.Elements.{All-append, All-cons, All-drop, All-head, All-nil, All-push, All-tail, All-take}
use Rattle.ct_model.specs.Rehearsal.{Rehearsal}
use Rattle.ct_world.specs.Setup.{record_of}
use Rattle.ct_world.specs.declared.setup.Setup.{Setup}
use Rattle.ct_grammar.specs.declared.act.Act.{Act}
use Rattle.ct_grammar.specs.declared.act.Act.TheVariants as act
use Rattle.ct_grammar.specs.declared.pick.Pick.{Pick}
use Rattle.ct_grammar.specs.declared.pick.Pick.TheVariants.{Serial, First}
use Rattle.ct_play.specs.Goals.{uncut}
use Rattle.ct_play.specs.Picking.{picked, repeated, sender_of}
use Rattle.ct_play.specs.Played.{Played}
use Rattle.ct_shrink.specs.Lines.{after_line, after_taken, allowed, best_choice, other_act, other_line, other_pick, other_repeat, taken}
use Rattle.ct_shrink.specs.Naming.{IsByContent, IsContent, NamesContent}
use Rattle.ct_shrink.specs.Trials.{behind, trial, tried}
use Rattle.ct_shrink.specs.declared.line.Line.{Line}

-- ---- one line

if_mapped : {A B : Type 0} (P : B → Type 0) (f : A → B) (o : Option A) → ((x : A) → P (f x)) → IfSome (option_map f o) P
if_mapped P f None h = tt
if_mapped P f (Some x) h = h x

if_kept : {A B : Type 0} (P : A → Type 0) (Q : B → Type 0) (f : A → B) (o : Option A) → IfSome o P → ((x : A) → P x → Q (f x)) →
    IfSome (option_map f o) Q
if_kept P Q f None is h = tt
if_kept P Q f (Some x) is h = h x is

pick_content : (w : Rehearsal) (p : ℕ) (pick : Pick) → IfSome (other_pick w p pick) IsContent
pick_content w p (Serial k) = tt
pick_content w p (First carried from) =
    if_mapped IsContent (λ k. First carried (sender_of w k)) (picked w p (First carried None)) (λ k. tt)

repeat_content : (w : Rehearsal) (p : ℕ) (pick : Pick) → IfSome (other_repeat w p pick) IsContent
repeat_content w p (Serial k) = tt
repeat_content w p (First carried from) =
    if_mapped IsContent (λ k. First carried (sender_of w k)) (repeated w p (First carried None)) (λ k. tt)

act_content : (w : Rehearsal) (p : ℕ) (a : Act) → IfSome (other_act w p a) NamesContent
act_content w p (act.Receive pick) = if_kept IsContent NamesContent act.Receive (other_pick w p pick) (pick_content w p pick) (λ x is. is)
act_content w p (act.Postpone pick) = if_kept IsContent NamesContent act.Postpone (other_pick w p pick) (pick_content w p pick) (λ x is. is)
act_content w p (act.Lose pick) = if_kept IsContent NamesContent act.Lose (other_pick w p pick) (pick_content w p pick) (λ x is. is)
act_content w p (act.Repeat pick) =
    if_kept IsContent NamesContent act.Repeat (other_repeat w p pick) (repeat_content w p pick) (λ x is. is)
act_content w p (act.Choose q) = if_mapped NamesContent act.Choose (best_choice w p) (λ q. tt)
act_content w p _ = tt

other_content : (w : Rehearsal) (line : Line) → IfSome (other_line w line) IsByContent
unfolding other_line
other_content w line =
    if_kept NamesContent IsByContent (λ a. let other : Line = record { member = line.member; act = a } in other)
    (other_act w line.member line.act) (act_content w line.member line.act) (λ a is. is)

if_allowed : (b : Bool) (line : Line) → IsByContent line → IfSome (cond b (Some line) None) IsByContent
if_allowed true line is = is
if_allowed false line is = tt

allowed_content : (s : Played) (o : Option Line) → IfSome o IsByContent → IfSome (allowed s o) IsByContent
unfolding allowed
allowed_content s None is = tt
allowed_content s (Some line) is = if_allowed (is_ok (after_line s line)) line is

either_content : (a b : Option Line) → IfSome a IsByContent → IfSome b IsByContent → IfSome (option_or a b) IsByContent
either_content None b is or = or
either_content (Some line) b is or = is

taken_content : (s : Played) (line : Line) → IsByContent line → IfSome (taken s line) IsByContent
unfolding taken
taken_content s line is =
    either_content (allowed s (Some line)) (allowed s (other_line s.rehearsal line)) (allowed_content s (Some line) is)
    (allowed_content s (other_line s.rehearsal line) (other_content s.rehearsal line))

-- ---- lines

behind_content : (line : Option Line) (r : Option (List Line)) → IfSome line IsByContent → IfSome r (All IsByContent) →
    IfSome (option_map (behind line) r) (All IsByContent)
behind_content line None is are = tt
behind_content None (Some lines) is are = are
behind_content (Some line) (Some lines) is are = All-cons IsByContent line lines is are

if_shown : (b : Bool) (r : Option (List Line)) → IfSome r (All IsByContent) → IfSome (cond b (Some []) r) (All IsByContent)
if_shown true r are = All-nil IsByContent
if_shown false r are = are

tried_content : (test : Played → Bool) (s : Played) (lines : List Line) → All IsByContent lines →
    IfSome (tried test s lines) (All IsByContent)
unfolding tried
tried_content test s [] are = if_shown (test s) None tt
tried_content test s (line ∷ lines) are =
    if_shown (test s) (option_map (behind (taken s line)) (tried test (after_taken s (taken s line)) lines))
    (behind_content (taken s line) (tried test (after_taken s (taken s line)) lines)
    (taken_content s line (All-head IsByContent line lines are))
    (tried_content test (after_taken s (taken s line)) lines (All-tail IsByContent line lines are)))

-- what a trial leaves of such lines are such
pub trial_content : (test : Played → Bool) (setup : Setup) (lines kept : List Line) → All IsByContent lines →
    Some kept ≡ trial test setup lines → All IsByContent kept
unfolding trial
trial_content test setup lines kept are same =
    subst (λ (o : Option (List Line)). IfSome o (All IsByContent)) (sym same) (tried_content test (uncut (record_of setup [])) lines are)

-- one more
pub line_more : (lines more : List Line) (line : Line) → more ≡ lines ++ line ∷ [] → All IsByContent lines → IsByContent line →
    All IsByContent more
line_more lines more line e are is = subst (All IsByContent) (sym e) (All-push IsByContent lines line are is)

-- and without one of them
pub without_content : (lines others : List Line) (i : ℕ) → All IsByContent lines → others ≡ remove lines i → All IsByContent others
without_content lines others i are same =
    subst (All IsByContent) (sym same)
    (All-append IsByContent (take i lines) (drop (suc i) lines) (All-take IsByContent i lines are) (All-drop IsByContent (suc i) lines are))
