use Rattle.std.proofs.Common.{◌≡◌, ◌+◌, ◌-◌, ◌++◌, ℕ, List, length, drop, take, ap, ◌∙◌, arith}
use Rattle.std.specs.List.{copy_within}
use Rattle.std.proofs.lemmas.List.{length-drop}
use Rattle.std.proofs.lemmas.List.Edits.{paste_all}
use Rattle.std.proofs.Math.Seq.{take-append_seam}
use Rattle.ct_network.specs.WaitingLine.{WaitingLine}
use Rattle.ct_network.proofs.line.Line.reclaim.Goals as goal

-- the part that was copied to the front
moved : (xs : List ℕ) (start waiting end : ℕ) → end ≡ length xs → waiting ≡ length xs - start →
    take waiting (copy_within xs start end 0) ≡ drop start xs
moved xs start waiting end whole rest =
    let count : end - start ≡ length (drop start xs) = omega (arith, whole, length-drop start xs) in
    let all : copy_within xs start end 0 ≡ drop start xs ++ drop (0 + (end - start)) xs =
    paste_all xs 0 (drop start xs) (end - start) count in
    let first : waiting ≡ length (drop start xs) = omega (arith, rest, length-drop start xs) in
    rw (first, all) (take-append_seam (drop start xs) (drop (0 + (end - start)) xs))

pub returns-clause-serials : goal.returns-clause-serials
returns-clause-serials c =
    let kept = c.self.inside.kept in
    let waiting = c.len.result - c.self.inside.start in
    let rest : waiting ≡ length kept.items - c.self.inside.start = omega (arith, kept.ok.0) in
    c.truncate.ensures.items ∙ ap (take waiting) c.copy_within.ensures.items
    ∙ moved kept.items c.self.inside.start waiting kept.len kept.ok.0 rest
    ∙ ap (λ (v : WaitingLine). v.serials) c.self.view_is
