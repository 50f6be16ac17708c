use Rattle.std.proofs.Common.{◌≡◌, ◌++◌, ◌∷◌, [], ap, ◌∙◌, subst, string_bytes}
use Rattle.std.specs.Str.{IsUtf8}
use Rattle.std.proofs.lemmas.Str.{is_utf8-from_IsUtf8}
use Rattle.ct_print.specs.Lines.{line_text}
use Rattle.ct_listing.specs.Leading.{comment_text}
use Rattle.ct_listing.proofs.told.push_told.Goals as goal

pub returns : goal.returns
returns c =
    let remark = c.first_line.result.now in
    let line = line_text c.args.line.now in
    let told : c.as_str.result.now ≡ line ++ comment_text remark =
    c.as_str.ensures.value ∙ c.in_ok-push_comment.ensures
    ∙ ap (λ l. l ++ comment_text remark) (c.in_ok-push_line.ensures ∙ ap (λ l. l ++ line) c.new-told.ensures.bytes) in
    record {
      remark = remark;
      one = c.first_line.ensures;
      utf8 = is_utf8-from_IsUtf8 (line ++ comment_text remark) (subst IsUtf8 told c.as_str.utf8);
      is = c.in_ok-push_with_feed.ensures ∙ ap (λ l. string_bytes c.args.text.now ++ (l ++ 10 ∷ [])) told;
    }
