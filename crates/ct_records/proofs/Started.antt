-- What was read behind the start of a record makes the whole.
use Rattle.ct_records.proofs.Common.{◌≡◌, ℕ, ◌≤◌, List, [], ◌++◌, Option, refl, sym, subst, arith, ◌∙◌, IsAtEnd, Step, Rehearsal, AllFit}
use Rattle.ct_records.proofs.Common.{steps_text, Input, Advances, IsEnd, IsReadAs, IsReadOf, IsSeen, IsTextOf, SaysSame}
use Rattle.ct_records.specs.declared.start.Start.{Start}
use Rattle.ct_records.specs.Start.{IsStart}
use Rattle.ct_records.proofs.Sources.{goes_on, seen_none}
use Rattle.ct_records.proofs.Texts.{steps_same}

pub read_whole : (start : Start) (w : Rehearsal) (a d : Option (List ℕ)) (text last : List ℕ) (count : ℕ) → IsStart start →
    IsTextOf w.steps text → IsSeen a d (start.text.items ++ (text ++ last)) count → count ≤ 67108864 → IsAtEnd d →
    IsEnd start.numbers w last → IsReadOf a d w
read_whole start w a d text last count h steps seen few end is = record {
  bytes = start.text.items ++ (text ++ last);
  consumed = seen.consumed;
  end = end;
  whole = record {
    head = start.text.items;
    numbers = start.numbers;
    text = text;
    last = last;
    split = refl;
    front = h.head;
    valid = h.valid;
    steps = steps;
    end = is;
    few = omega (arith, seen.counted, few);
  };
}

-- the bytes are the same in fewer bytes
pub read_part : (start : Start) (ss : List Step) (a d : Option (List ℕ)) (text last : List ℕ) (input : Input) (count : ℕ) → IsStart start →
    IsTextOf ss text → AllFit ss → IsSeen a d (start.text.items ++ (text ++ last)) count → input.count ≡ count →
    input.bytes.items ≡ start.text.items ++ (steps_text ss ++ last) → IsReadAs a d input
read_part start ss a d text last input count h steps fit seen counted is = record {
  text = start.text.items ++ (text ++ last);
  seen = record { consumed = seen.consumed; counted = counted ∙ seen.counted };
  same =
      subst (SaysSame (start.text.items ++ (text ++ last))) (sym is)
      (steps_same start.text.items text last h.head.before ss h.head.lexed h.valid steps fit);
}

-- what was read first, of which some bytes were taken out
pub seen_first : (a b : Option (List ℕ)) (x y text rest : List ℕ) (m n : ℕ) → x ≡ [] → m ≡ 0 → Advances a b x y m n →
    y ≡ text ++ rest → IsSeen a b (text ++ rest) n
seen_first a b x y text rest m n none zero h is = subst (λ t. IsSeen a b t n) is (goes_on a b x y m n h a [] (seen_none a x m none zero))
