-- Where a key is put into the members of a record.
use Rattle.ct_records.proofs.Common.{◌≡◌, ℕ, List, codes, Option, Some, refl, arith, array, Step, members_from, Adds, num, steps_data}
use Rattle.json.proofs.OnLiterals.{json_on_literals}

pub adds_batch : (key : List ℕ) (x : ℕ) (batch cells n : Option ℕ) (steps : Option (List Step)) (version : Option ℕ) →
    key ≡ codes "batch" → Adds key (num x) (members_from batch cells n steps version) (members_from (Some x) cells n steps version)
unfolding json_on_literals
adds_batch key x batch cells n steps version is = rw is (refl, grind arith)

pub adds_cells : (key : List ℕ) (x : ℕ) (batch cells n : Option ℕ) (steps : Option (List Step)) (version : Option ℕ) →
    key ≡ codes "cells" → Adds key (num x) (members_from batch cells n steps version) (members_from batch (Some x) n steps version)
unfolding json_on_literals
adds_cells key x batch cells n steps version is = rw is (refl, grind arith)

pub adds_n : (key : List ℕ) (x : ℕ) (batch cells n : Option ℕ) (steps : Option (List Step)) (version : Option ℕ) →
    key ≡ codes "n" → Adds key (num x) (members_from batch cells n steps version) (members_from batch cells (Some x) steps version)
unfolding json_on_literals
adds_n key x batch cells n steps version is = rw is (refl, grind arith)

pub adds_steps : (key : List ℕ) (x : List Step) (batch cells n : Option ℕ) (steps : Option (List Step)) (version : Option ℕ) →
    key ≡ codes "steps" → Adds key (array (steps_data x)) (members_from batch cells n steps version)
    (members_from batch cells n (Some x) version)
unfolding json_on_literals
adds_steps key x batch cells n steps version is = rw is (refl, grind arith)

pub adds_version : (key : List ℕ) (x : ℕ) (batch cells n : Option ℕ) (steps : Option (List Step)) (version : Option ℕ) →
    key ≡ codes "version" → Adds key (num x) (members_from batch cells n steps version) (members_from batch cells n steps (Some x))
unfolding json_on_literals
adds_version key x batch cells n steps version is = rw is (refl, grind arith)
