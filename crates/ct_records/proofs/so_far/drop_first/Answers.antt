use Rattle.ct_records.proofs.Common.{◌≡◌, ℕ, ◌+◌, ◌-◌, List, ◌++◌, length, take, ap, ◌∙◌, arith, drop, length-drop, take-append_seam}
use Rattle.std.specs.List.{copy_within}
use Rattle.std.proofs.lemmas.List.Edits.{paste_all}
use Rattle.ct_records.proofs.so_far.drop_first.Goals as goal

moved : (xs : List ℕ) (n k end : ℕ) → end ≡ length xs → k ≡ length xs - n → take k (copy_within xs n end 0) ≡ drop n xs
moved xs n k end whole rest =
    let count : end - n ≡ length (drop n xs) = omega (arith, whole, length-drop n xs) in
    let all : copy_within xs n end 0 ≡ drop n xs ++ drop (0 + (end - n)) xs = paste_all xs 0 (drop n xs) (end - n) count in
    let first : k ≡ length (drop n xs) = omega (arith, rest, length-drop n xs) in
    rw (first, all) (take-append_seam (drop n xs) (drop (0 + (end - n)) xs))

pub returns : goal.returns
returns c =
    let bytes = c.args.bytes.now in
    let kept = c.len.result - c.args.count in
    let rest : kept ≡ length bytes.items - c.args.count = omega (arith, c.len.ensures, bytes.ok.0) in
    c.truncate.ensures.items ∙ ap (take kept) c.copy_within.ensures.items ∙ moved bytes.items c.args.count kept bytes.len bytes.ok.0 rest
