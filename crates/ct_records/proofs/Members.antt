-- From the lexemes of an object's members to what the object says.
use Rattle.ct_records.proofs.Common.{◌≡◌, ℕ, ◌<◌, ◌≤◌, ◌^◌, true, List, [], ◌∷◌, ◌++◌, length, decimal, Option, Some, None, Ok, refl, sym}
use Rattle.ct_records.proofs.Common.{ap, ◌∙◌, arith, append_assoc, append-nil, inl, inr, ne_eqb, false, ◌⊎◌, All, option_map}
use Rattle.ct_records.proofs.Common.{option_and_then, IsUtf8, begin_object, end_object, begin_array, end_array, string, Lexeme, token}
use Rattle.ct_records.proofs.Common.{comma, colon, fresh, tokens, ends_word, value-json_tokens, array, number, object, Members, no_members}
use Rattle.ct_records.proofs.Common.{read, of_json, number_of-decimal, MAX_BOUND, Step, Rehearsal, Rest, nothing, step_entry, AllFit}
use Rattle.ct_records.proofs.Common.{IsStorable, lexemes, number_lexeme, entry_lexemes, rest_lexemes, steps_lexemes, Begins, IsPlain, Adds}
use Rattle.ct_records.proofs.Common.{Takes, SoFar, IsPast, IsBound, members_from, since, of_value, max_len, script, num, entry_data}
use Rattle.ct_records.proofs.Common.{rest_data, step_data, steps_data}
use Rattle.json.specs.Lex.{Place, after_comma, after_key, after_value, may_begin, punctuate}
use Rattle.json.specs.Tree.{json_tokens, items_tokens, members_tokens}
use Rattle.json.proofs.OnLiterals.{json_on_literals}
use Rattle.serde_json.specs.Written.{outline, items_outline}
use Rattle.ct_records.proofs.Lexemes.{commas, opens_object}
use Rattle.ct_records.specs.Members.{Closes}
use Rattle.ct_records.proofs.Stored.{steps_stored}
use Rattle.ct_records.proofs.Whole.{script_read}
use Rattle.ct_records.proofs.Written.{record_is}
use Rattle.json.specs.Token as json
use Rattle.json.specs.Json as tree
use Rattle.ct_model.specs.StepText as steps

-- ---- the tokens of the steps

entry_tokens : (name : List ℕ) (first : ℕ) (r : Rest) (after : List Lexeme) (p : Place) → may_begin p ≡ true →
    punctuate p (entry_lexemes name first (rest_lexemes r (token end_array ∷ after)))
    ≡ json_tokens (outline (entry_data name first (rest_data r))) ++ punctuate after_value after
unfolding punctuate
entry_tokens name first r after after_value h = absurd cc
entry_tokens name first r after after_key h = absurd cc
entry_tokens name first nothing after fresh h = refl
entry_tokens name first nothing after after_comma h = refl
entry_tokens name first _ after _ h = refl

step_tokens : (s : Step) (rest : List Lexeme) (p : Place) → may_begin p ≡ true →
    punctuate p (entry_lexemes (step_entry s).name (step_entry s).first (rest_lexemes (step_entry s).rest (token end_array ∷ rest)))
    ≡ json_tokens (outline (step_data s)) ++ punctuate after_value rest
step_tokens s rest p h = entry_tokens (step_entry s).name (step_entry s).first (step_entry s).rest rest p h

later_tokens : (ss : List Step) (after : List Lexeme) →
    punctuate after_value (steps_lexemes true ss (token end_array ∷ after))
    ≡ items_tokens (items_outline (steps_data ss)) ++ punctuate after_value after
unfolding punctuate
later_tokens [] after = refl
later_tokens (s ∷ ss) after =
    step_tokens s (steps_lexemes true ss (token end_array ∷ after)) after_comma refl
    ∙ ap (λ t. json_tokens (outline (step_data s)) ++ t) (later_tokens ss after)
    ∙ sym (append_assoc (json_tokens (outline (step_data s))) (items_tokens (items_outline (steps_data ss))) (punctuate after_value after))

steps_tokens : (ss : List Step) (after : List Lexeme) →
    punctuate fresh (token begin_array ∷ steps_lexemes false ss (token end_array ∷ after))
    ≡ json_tokens (outline (array (steps_data ss))) ++ punctuate after_value after
unfolding punctuate
steps_tokens [] after = refl
steps_tokens (s ∷ ss) after =
    ap (λ t. begin_array ∷ t)
    (step_tokens s (steps_lexemes true ss (token end_array ∷ after)) fresh refl
    ∙ ap (λ t. json_tokens (outline (step_data s)) ++ t) (later_tokens ss after)
    ∙ sym (append_assoc (json_tokens (outline (step_data s))) (items_tokens (items_outline (steps_data ss))) (punctuate after_value after)))

-- ---- one member

key_tokens : (key : List ℕ) (after : List Lexeme) (p : Place) → may_begin p ≡ true →
    punctuate p (token (string key) ∷ colon ∷ after) ≡ json.key key ∷ punctuate fresh after
unfolding punctuate
key_tokens key after p h = grind arith

number_tokens : (n : ℕ) (after : List Lexeme) →
    punctuate fresh (number_lexeme n ∷ after) ≡ json.number (decimal n) ∷ punctuate after_value after
unfolding punctuate
number_tokens n after = refl

pub takes_number : (key : List ℕ) (n : ℕ) (bytes value after : List ℕ) (old new : Members) →
    (IsPlain key → lexemes bytes ≡ token (string key) ∷ colon ∷ lexemes value) →
    (ends_word after ≡ true → lexemes value ≡ number_lexeme n ∷ lexemes after) → n < 2 ^ 64 → Adds key (num n) old new →
    Takes bytes old new after
takes_number key n bytes value after old new h0 h1 fits adds = record {
  key = key;
  entry = num n;
  tokens = λ p may ended.
      rw (h0 adds.0, h1 ended) (key_tokens key _ p may ∙ ap (λ t. json.key key ∷ t) (number_tokens n (lexemes after)));
  converts = ap (option_map number) (number_of-decimal n fits);
  shallow = omega arith;
  puts = adds.1;
}

pub takes_steps : (key : List ℕ) (ss : List Step) (bytes value after : List ℕ) (old new : Members) →
    (IsPlain key → lexemes bytes ≡ token (string key) ∷ colon ∷ lexemes value) →
    lexemes value ≡ token begin_array ∷ steps_lexemes false ss (token end_array ∷ lexemes after) → AllFit ss →
    Adds key (array (steps_data ss)) old new → Takes bytes old new after
takes_steps key ss bytes value after old new h0 h1 fit adds =
    let stored = steps_stored ss fit in
    record {
      key = key;
      entry = array (steps_data ss);
      tokens = λ p may ended.
          rw (h0 adds.0, h1) (key_tokens key _ p may ∙ ap (λ t. json.key key ∷ t) (steps_tokens ss (lexemes after)));
      converts = ap (option_map array) stored.again;
      shallow = omega (arith, stored.shallow);
      puts = adds.1;
    }

-- ---- all members

pub so_far_none : (start : List ℕ) → SoFar start no_members start
so_far_none start ms all t c s = record { trees = ms; tokens = t; converts = c; shallow = s }

comma_tokens : (after : List Lexeme) → punctuate after_value (comma ∷ after) ≡ punctuate after_comma after
unfolding punctuate
comma_tokens after = refl

pub so_far_more : (start now after next : List ℕ) (found more : Members) → SoFar start found now → Takes now found more after →
    Begins after 44 next → SoFar start more next
so_far_more start now after next found more so_far takes begins ms all t c s =
    let follows : punctuate after_value (lexemes after) ≡ members_tokens ms =
    ap (punctuate after_value) (commas after next begins) ∙ comma_tokens (lexemes next) ∙ t after_comma refl in
    so_far (tree.member takes.key (outline takes.entry) ms) all
    (λ p may.
    takes.tokens p may (begins.ends refl) ∙ ap (λ l. json.key takes.key ∷ (json_tokens (outline takes.entry) ++ l)) follows)
    (rw (takes.converts, takes.puts) c) (omega (arith, takes.shallow, s))

end_tokens : punctuate after_value (token end_object ∷ []) ≡ end_object ∷ []
unfolding punctuate
end_tokens = refl

pub so_far_end : (start now after : List ℕ) (found more : Members) → SoFar start found now → Takes now found more after →
    lexemes after ≡ token end_object ∷ [] → ends_word after ≡ true → Closes start more
so_far_end start now after found more so_far takes last ended =
    so_far (tree.member takes.key (outline takes.entry) tree.no_members) more
    (λ p may.
    takes.tokens p may ended
    ∙ ap (λ l. json.key takes.key ∷ (json_tokens (outline takes.entry) ++ l)) (ap (punctuate after_value) last ∙ end_tokens))
    (rw (takes.converts, takes.puts) refl) (omega (arith, takes.shallow))

-- one more member behind the last
pub past_more : (start after next end : List ℕ) (found more : Members) → IsPast start found after → Begins after 44 next →
    Takes next found more end → IsPast start more end
past_more start after next end found more past begins takes = record {
  last = next;
  earlier = found;
  so_far = so_far_more start past.last after next past.earlier found past.so_far past.takes begins;
  takes = takes;
}

pub past_end : (start after : List ℕ) (found : Members) → IsPast start found after → lexemes after ≡ token end_object ∷ [] →
    ends_word after ≡ true → Closes start found
past_end start after found past last ended = so_far_end start past.last after past.earlier found past.so_far past.takes last ended

-- ---- the whole

object_tokens : (after : List Lexeme) → punctuate fresh (token begin_object ∷ after) ≡ begin_object ∷ punctuate fresh after
unfolding punctuate
object_tokens after = refl

pub plain_script : (bytes rest : List ℕ) (found : Members) (w : Rehearsal) → length bytes ≤ max_len → IsUtf8 bytes → Begins bytes 123 rest →
    Closes rest found → of_value (object found) ≡ Ok w → script bytes ≡ Ok w
plain_script bytes rest found w short utf8 begins all says =
    let whole = json_tokens (tree.object all.trees) in
    let is : tokens bytes ≡ whole ++ [] =
    ap (punctuate fresh) (opens_object bytes rest begins) ∙ object_tokens (lexemes rest)
    ∙ ap (λ t. begin_object ∷ t) (all.tokens fresh refl) ∙ sym (append-nil whole) in
    let reads : read bytes ≡ Some (object found) =
    ap (λ xs. option_and_then of_json (option_and_then (λ p. tree.if_last p.0 p.1) (tree.value 127 xs))) is
    ∙ ap (λ o. option_and_then of_json (option_and_then (λ p. tree.if_last p.0 p.1) o))
    (value-json_tokens (tree.object all.trees) 127 [] (omega (arith, all.shallow)))
    ∙ ap (option_map object) all.converts in
    script_read bytes (object found) short utf8 reads ∙ says

-- ---- a record with all its parts

pub parts_say : (batch cells n version_in : Option ℕ) (steps : Option (List Step)) (version : ℕ) (w : Rehearsal) →
    version_in ≡ Some version → cells ≡ Some w.cells → n ≡ Some w.setting.members → steps ≡ Some w.steps
    → IsBound version batch w.setting.bound →
    All (λ s. since s ≤ version) w.steps → IsStorable w → of_value (object (members_from batch cells n steps version_in)) ≡ Ok w
unfolding json_on_literals
parts_say batch cells n version_in steps version w hv hc hn hs bound known fit = go bound.is
  where
    go : ((version ≡ 3) × (batch ≡ Some w.setting.bound)) ⊎ ((version < 3) × (batch ≡ None) × (w.setting.bound ≡ MAX_BOUND)) →
        of_value (object (members_from batch cells n steps version_in)) ≡ Ok w
    go (inl (is, named)) = rw (named, hc, hn, hs, hv) (record_is true version w (record {
      first = bound.first;
      last = bound.last;
      names = rw is refl;
      bound = λ e. absurd cc;
      known = known;
    }) fit)
    go (inr (below, none, largest)) = rw (none, hc, hn, hs, hv) (record_is false version w (record {
      first = bound.first;
      last = bound.last;
      names = ne_eqb version 3 (λ e. omega arith);
      bound = λ e. largest;
      known = known;
    }) fit)
