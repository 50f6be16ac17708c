-- The envelopes of a mail: how many they are.
use Rattle.std.proofs.Common.{◌≡◌, ℕ, [], length, refl, ap, ◌∙◌}
use Rattle.ct_names.specs.Group.{members}
use Rattle.ct_model.specs.declared.wire.Wire.{Wire}
use Rattle.ct_model.specs.declared.mail.Mail.{Mail}
use Rattle.ct_model.specs.Wire.{envelopes}
use Rattle.ct_model.specs.declared.mail.Mail.TheVariants.{All}
use Rattle.ct_model.proofs.Basics.Serials

-- none to a group of none
pub envelopes-none : {V : Type 0} (w : Wire V) → envelopes 0 (All w) ≡ []
unfolding members
envelopes-none w = refl

-- the mail to all
pub length-all : {V : Type 0} (n : ℕ) (mail : Mail V) (w : Wire V) → mail ≡ All w → length (envelopes n mail) ≡ n
length-all n mail w is = ap (λ m. length (envelopes n m)) is ∙ Serials.length-all w n
