-- Who is named is a member: the sender that a wire names, and the one to whom a step sends one envelope.
use Rattle.std.proofs.Common.{◌≡◌, ℕ, ◌≤◌, ◌<◌, List, Some, arith}
use Rattle.ct_names.specs.declared.limit.TheConstants.{MAX_MEMBERS}
use Rattle.ct_names.specs.Group.{IsMember}
use Rattle.ct_names.specs.Membership.{IsIn}
use Rattle.ct_model.specs.declared.step.Step.{Step}
use Rattle.ct_model.specs.AtValue.{Wire, Mail}
use Rattle.ct_model.specs.Counted.{NamesSomebody}
use Rattle.ct_model.specs.Setting.{Setting}
use Rattle.ct_model.specs.declared.wire.Wire.TheVariants.{Est, Ack, Nack}
use Rattle.ct_model.specs.declared.mail.Mail.TheVariants.{One}
use Rattle.ct_model.specs.State.{State, Member, first_state, wires}
use Rattle.ct_model.specs.Next.{Outcome, row, next}
use Rattle.ct_model.specs.Run.{run}
use Rattle.ct_model.proofs.Consensus.Sent.{Sent, Carries, Sent-cases}
use Rattle.ct_model.proofs.Basics.Groups.{member_is, coordinator_is}
use Rattle.ct_model.proofs.Relay.Messages.{next-is}
use Rattle.ct_model.proofs.Record.Runs.{kept-run}
use Rattle.ct_model.proofs.Steps.Mail.{IsSending, row-sends}

-- a wire that names its sender names a member of the group of n
abbrev pub NamesMember : ℕ → Wire → Type 0
NamesMember n (Est k r p v t) = IsMember n p
NamesMember n (Ack k r p) = IsMember n p
NamesMember n (Nack k r p) = IsMember n p
NamesMember n _ = Unit {0}

-- one envelope goes to a member of the group of n
abbrev pub IsToMember : ℕ → Mail → Type 0
IsToMember n (One to w) = IsMember n to
IsToMember n _ = Unit {0}

to_member : (s : Setting) (g : State) (p : ℕ) (m : Member) (mail : Mail) → 0 < s.members → IsSending s g p m mail →
    IsToMember s.members mail
to_member s g p m mail some h = grind (arith, coordinator_is s.members)

-- where a step sends one envelope, it goes to a member
pub addressed-step : (s : Setting) (g : State) (p : ℕ) (m : Member) (step : Step) (o : Outcome) (to : ℕ) (w : Wire) → 0 < s.members →
    row s g p m step ≡ Some o → o.mail ≡ One to w → IsMember s.members to
addressed-step s g p m step o to w some e mail = rw mail at (to_member s g p m o.mail some (row-sends s g p m step o e))

-- what was sent names members
abbrev Names : Setting → State → Type 0
Names s g = (w : Wire) → Sent g w → NamesMember s.members w

-- and so does what a step of a member sends
names-sending : (s : Setting) (g : State) (p : ℕ) (m : Member) (mail : Mail) → IsMember s.members p → Names s g → IsSending s g p m mail →
    (w : Wire) → Carries mail w → NamesMember s.members w
names-sending s g p m mail is old h w c = grind (arith, old)

named-next : (s : Setting) (g : State) (step : Step) (h : State) → next s g step ≡ Some h → Names s g → Names s h
named-next s g step h e old w sent =
    grind (arith, next-is s g step h e, Sent-cases, names-sending, member_is, row-sends)

names_somebody : (n : ℕ) (w : Wire) → n ≤ MAX_MEMBERS → NamesMember n w → NamesSomebody w
names_somebody n w few h = grind arith

-- in a group of at most 16 it names one of everyone
pub sender_named : (s : Setting) (steps : List Step) (g : State) → s.members ≤ MAX_MEMBERS → run s steps ≡ Some g → (w : Wire) →
    IsIn w (wires g) → NamesSomebody w
sender_named s steps g few e w sent =
    names_somebody s.members w few (kept-run (Names s) s (λ x never. absurd (unfold first_state in never)) (named-next s) steps g e w sent)
