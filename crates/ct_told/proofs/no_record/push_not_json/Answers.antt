use Rattle.std.specs.Prelude.{[], ◌∷◌, codes, string_bytes}
use Rattle.ct_told.specs.NoRecords.{place_text}
use Rattle.ct_text.proofs.Pushed.{pushed_first, pushed_last}
use Rattle.ct_told.proofs.no_record.push_not_json.Goals as goal

pub returns : goal.returns
returns c =
    let old = string_bytes c.args.line.now in
    pushed_last c.push_place.result (codes "record: not JSON" ∷ []) (place_text c.args.place) old _ _
    (pushed_first (codes "record: not JSON") old _ c.in_ok-push_str.ensures.bytes) c.push_place.ensures
