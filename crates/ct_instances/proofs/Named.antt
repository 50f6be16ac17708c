-- What has values by number and what has the values themselves: what is the same in both, and that a longer list of
-- values names what the shorter one did.
use Rattle.std.proofs.Common.{◌≡◌, ℕ, zero, suc, Bool, List, [], ◌∷◌, ◌++◌, length, map, slice_get, Option, Some, None}
use Rattle.std.proofs.Common.{is_some, option_map, refl, ap, sym, ◌∙◌, arith}
use Rattle.std.specs.Prelude.{◌+◌, if◌then◌else◌}
use Rattle.std.proofs.lemmas.List.{map-append, length-map}
use Rattle.std.proofs.lemmas.Option.{slice_get-map}
use Rattle.ct_names.specs.Message.{Message}
use Rattle.ct_names.specs.Value.{Value}
use Rattle.ct_model.specs.declared.wire.Wire.{Wire as AnyWire}
use Rattle.ct_model.specs.declared.envelope.Envelope.{Envelope as AnyEnvelope}
use Rattle.ct_model.specs.declared.mail.Mail.{Mail as AnyMail}
use Rattle.ct_model.specs.Wire.{value_of, envelopes}
use Rattle.ct_model.specs.declared.wire.Wire.TheVariants.{Data, Est, Prop, Dec}
use Rattle.ct_model.specs.declared.mail.Mail.TheVariants.{Nobody, All}
use Rattle.ct_model.specs.State.{Standing as AnyStanding, at_serial}
use Rattle.ct_model.specs.AtValue.{Wire, Envelope, Mail, Standing}
use Rattle.ct_model.specs.Received.{Heard, Ballots, message_of, decision_of, is_decision}
use Rattle.ct_model.specs.Counted.{NamesSomebody}
use Rattle.ct_model.specs.Mapped.{wire_map, envelope_map, without_value, heard_map, ballots_map, standing_map}
use Rattle.ct_model.specs.Waiting.{serials_to}
use Rattle.ct_model.proofs.Numbers.Naturality.{envelopes-map}
use Rattle.ct_model.proofs.Record.Senders.{get-front}
use Rattle.ct_instances.specs.Named.{value_at, NamesWire, NamesMail, NamesEnvelope, NamesEnvelopes, NamesStanding, NamesBallots}
use Rattle.ct_instances.specs.Named.{NamesDecision}

-- lists and optional values with one image

module _ {A B C : Type 0} (f : A → C) (g : B → C) where
  -- where the one has a value, the other has one with the same image
  pub mate : (a : Option A) (b : Option B) (x : A) → option_map f a ≡ option_map g b → a ≡ Some x → (y : B) × (b ≡ Some y) × (f x ≡ g y)
  mate a None x h e = absurd (grind arith)
  mate a (Some y) x h e = (y, refl, grind arith)

  pub mate-back : (a : Option A) (b : Option B) (y : B) → option_map f a ≡ option_map g b → b ≡ Some y →
      (x : A) × (a ≡ Some x) × (f x ≡ g y)
  mate-back None b y h e = absurd (grind arith)
  mate-back (Some x) b y h e = (x, refl, grind arith)

  pub mate-none : (b : Option B) → option_map f None ≡ option_map g b → b ≡ None
  mate-none b h = grind arith

  pub mates-some : (a : Option A) (b : Option B) → option_map f a ≡ option_map g b → is_some a ≡ is_some b
  mates-some a b h = grind arith

  -- another image that the two have where they have the first
  module _ {D : Type 0} (u : A → D) (v : B → D) (keep : (x : A) (y : B) → f x ≡ g y → u x ≡ v y) where
    option-kept : (a : Option A) (b : Option B) → option_map f a ≡ option_map g b → option_map u a ≡ option_map v b
    option-kept (Some x) (Some y) h = ap Some (keep x y (cc))
    option-kept _ _ h = grind arith

    list-kept : (xs : List A) (ys : List B) → map f xs ≡ map g ys → map u xs ≡ map v ys
    list-kept [] [] h = refl
    list-kept (x ∷ xs) (y ∷ ys) h = rw (keep x y (cc), list-kept xs ys (cc)) refl
    list-kept _ _ h = absurd (cc)

-- another type of values

module _ {V U : Type 0} (f : V → U) where
  value_of-map : (w : AnyWire V) → value_of (wire_map f w) ≡ option_map f (value_of w)
  value_of-map (Data m) = refl
  value_of-map _ = refl

  message_of-map : (w : AnyWire V) → message_of (wire_map f w) ≡ message_of w
  message_of-map (Data m) = refl
  message_of-map _ = refl

  pub decision_of-map : (k : ℕ) (w : AnyWire V) → decision_of k (wire_map f w) ≡ option_map f (decision_of k w)
  decision_of-map k (Dec j r v) = grind arith
  decision_of-map k _ = refl

  is_decision-map : (k r : ℕ) (w : AnyWire V) → is_decision k r (wire_map f w) ≡ is_decision k r w
  is_decision-map k r (Data m) = refl
  is_decision-map k r _ = refl

  somebody-map : (w : AnyWire V) → NamesSomebody (wire_map f w) ≡ NamesSomebody w
  somebody-map (Data m) = refl
  somebody-map _ = refl

  serials_to-map : (q k : ℕ) (es : List (AnyEnvelope V)) → serials_to q k (map (envelope_map f) es) ≡ serials_to q k es
  serials_to-map q k [] = refl
  serials_to-map q k (e ∷ es) = rw (serials_to-map q (k + 1) es) refl

  -- without the values, the type of values is all one
  without_value-map : (e : AnyEnvelope V) → without_value (envelope_map f e) ≡ without_value e
  without_value-map e = grind arith

-- functions that agree where the first one has a value

module _ {A B : Type 0} (f g : A → Option B) (agree : (a : A) (b : B) → f a ≡ Some b → g a ≡ Some b) where
  wire-kept : (x : AnyWire A) (w : AnyWire B) → wire_map f x ≡ wire_map Some w → wire_map g x ≡ wire_map Some w
  wire-kept (Est k r p a t) w h = grind (arith, agree a)
  wire-kept (Prop k r a) w h = grind (arith, agree a)
  wire-kept (Dec k r a) w h = grind (arith, agree a)
  wire-kept _ w h = h

  envelope-kept : (x : AnyEnvelope A) (e : AnyEnvelope B) → envelope_map f x ≡ envelope_map Some e → envelope_map g x ≡ envelope_map Some e
  envelope-kept x e h = grind (arith, wire-kept x.wire e.wire)

  standing-kept : (x : AnyStanding A) (c : AnyStanding B) → standing_map f x ≡ standing_map Some c → standing_map g x ≡ standing_map Some c
  standing-kept x c h = grind (arith, agree x.estimate c.estimate)

  heard-kept : (x : Heard A) (e : Heard B) → heard_map f x ≡ heard_map Some e → heard_map g x ≡ heard_map Some e
  heard-kept x e h = grind (arith, agree x.value e.value)

  ballots-kept : (x : Ballots A) (t : Ballots B) → ballots_map f x ≡ ballots_map Some t → ballots_map g x ≡ ballots_map Some t
  ballots-kept x t h = grind (
    arith,
    list-kept (heard_map f) (heard_map Some) (heard_map g) (heard_map Some) heard-kept x.estimates t.estimates,
    option-kept f Some g Some agree x.proposal t.proposal,
  )

-- growth: what the list names, a longer one names too

-- the value that joins the list has the next number
pub value_at-last : {A : Type 0} (values : List A) (v : A) → slice_get (values ++ v ∷ []) (length values) ≡ Some v
value_at-last [] v = refl
value_at-last (x ∷ values) v = value_at-last values v

module _ (values more : List Value) where
  -- the value of a number, in the longer list
  abbrev grown : ℕ → Option Value
  grown = value_at (values ++ more)

  pub grows_envelopes : (xs : List (AnyEnvelope ℕ)) (es : List Envelope) → NamesEnvelopes values xs es →
      NamesEnvelopes (values ++ more) xs es
  grows_envelopes =
      list-kept (envelope_map (value_at values)) (envelope_map Some) (envelope_map grown) (envelope_map Some)
      (envelope-kept (value_at values) grown (get-front values more))

  pub grows_standing : (x : Option (AnyStanding ℕ)) (c : Option Standing) → NamesStanding values x c → NamesStanding (values ++ more) x c
  grows_standing =
      option-kept (standing_map (value_at values)) (standing_map Some) (standing_map grown) (standing_map Some)
      (standing-kept (value_at values) grown (get-front values more))

  pub grows_ballots : (x : Ballots ℕ) (t : Ballots Value) → NamesBallots values x t → NamesBallots (values ++ more) x t
  grows_ballots = ballots-kept (value_at values) grown (get-front values more)

  pub grows_decision : (d : Option ℕ) (o : Option Value) → NamesDecision values d o → NamesDecision (values ++ more) d o
  grows_decision = option-kept (value_at values) Some grown Some (get-front values more)

module _ (values : List Value) where
  -- decisions

  pub named_some : (id : ℕ) (d : Option ℕ) (o : Option Value) → NamesDecision values d o → d ≡ Some id →
      (v : Value) × (o ≡ Some v) × (value_at values id ≡ Some v)
  named_some id d o = mate (value_at values) Some d o id

  pub named_none : (o : Option Value) → NamesDecision values None o → o ≡ None
  named_none = mate-none (value_at values) Some

  pub named_is_some : (d : Option ℕ) (o : Option Value) → NamesDecision values d o → is_some d ≡ is_some o
  named_is_some = mates-some (value_at values) Some

  -- standings

  pub standing_some : (x : AnyStanding ℕ) (o : Option Standing) → NamesStanding values (Some x) o →
      (c : Standing) × (o ≡ Some c) × (standing_map (value_at values) x ≡ standing_map Some c)
  standing_some x o h = mate (standing_map (value_at values)) (standing_map Some) (Some x) o x h refl

  pub standing_is_some : (x : Option (AnyStanding ℕ)) (o : Option Standing) → NamesStanding values x o → is_some x ≡ is_some o
  standing_is_some = mates-some (standing_map (value_at values)) (standing_map Some)

  pub standing_round : (x : AnyStanding ℕ) (c : Standing) → standing_map (value_at values) x ≡ standing_map Some c → x.round ≡ c.round
  standing_round x c h = ap (λ (z : AnyStanding (Option Value)). z.round) h

  -- envelopes

  pub named_wire : (x : AnyEnvelope ℕ) (e : Envelope) → NamesEnvelope values x e → NamesWire values x.wire e.wire
  named_wire x e h = ap (λ (z : AnyEnvelope (Option Value)). z.wire) h

  module _ (xs : List (AnyEnvelope ℕ)) (es : List Envelope) where
    pub named_length : NamesEnvelopes values xs es → length xs ≡ length es
    named_length h = sym (length-map xs (envelope_map (value_at values))) ∙ ap length h ∙ length-map es (envelope_map Some)

    serials-same : (k : ℕ) → NamesEnvelopes values xs es →
        option_map (envelope_map (value_at values)) (at_serial xs k) ≡ option_map (envelope_map Some) (at_serial es k)
    serials-same zero h = refl
    serials-same (suc i) h = rw (← slice_get-map (envelope_map (value_at values)) xs i, h) (slice_get-map (envelope_map Some) es i)

    pub named_at : (k : ℕ) (x : AnyEnvelope ℕ) → NamesEnvelopes values xs es → at_serial xs k ≡ Some x →
        (e : Envelope) × (at_serial es k ≡ Some e) × NamesEnvelope values x e
    named_at k x h =
        mate (envelope_map (value_at values)) (envelope_map Some) (at_serial xs k) (at_serial es k) x (serials-same k h)

    pub named_back : (k : ℕ) (e : Envelope) → NamesEnvelopes values xs es → at_serial es k ≡ Some e →
        (x : AnyEnvelope ℕ) × (at_serial xs k ≡ Some x) × NamesEnvelope values x e
    named_back k e h =
        mate-back (envelope_map (value_at values)) (envelope_map Some) (at_serial xs k) (at_serial es k) e (serials-same k h)

    pub named_serials : (q k : ℕ) → NamesEnvelopes values xs es → serials_to q k xs ≡ serials_to q k es
    named_serials q k h = sym (serials_to-map (value_at values) q k xs) ∙ ap (serials_to q k) h ∙ serials_to-map Some q k es

    pub named_without_value : NamesEnvelopes values xs es → map without_value xs ≡ map without_value es
    named_without_value =
        list-kept (envelope_map (value_at values)) (envelope_map Some) without_value without_value
        (λ x e same. sym (without_value-map (value_at values) x) ∙ ap without_value same ∙ without_value-map Some e) xs es

  pub named_append : (xs ys : List (AnyEnvelope ℕ)) (es fs : List Envelope) → NamesEnvelopes values xs es → NamesEnvelopes values ys fs →
      NamesEnvelopes values (xs ++ ys) (es ++ fs)
  named_append xs ys es fs h l =
      map-append (envelope_map (value_at values)) xs ys ∙ rw (h, l) (sym (map-append (envelope_map Some) es fs))

  pub named_posts : (n : ℕ) (x : AnyMail ℕ) (mail : Mail) → NamesMail values x mail →
      NamesEnvelopes values (envelopes n x) (envelopes n mail)
  named_posts n x mail h = sym (envelopes-map (value_at values) n x) ∙ ap (envelopes n) h ∙ envelopes-map Some n mail

  -- wires

  module _ (x : AnyWire ℕ) (w : Wire) where
    pub named_value : NamesWire values x w → NamesDecision values (value_of x) (value_of w)
    named_value h = sym (value_of-map (value_at values) x) ∙ ap value_of h ∙ value_of-map Some w

    pub named_sender : NamesWire values x w → NamesSomebody w → NamesSomebody x
    named_sender h s = rw (← somebody-map (value_at values) x, h, somebody-map Some w) s

    pub named_message : NamesWire values x w → message_of x ≡ message_of w
    named_message h = sym (message_of-map (value_at values) x) ∙ ap message_of h ∙ message_of-map Some w

  pub named_data : (m : Message) (w : Wire) → NamesWire values (Data m) w → w ≡ Data m
  named_data m w h = grind arith

  pub named_decision_name : (k r : ℕ) (x : AnyWire ℕ) (w : Wire) → NamesWire values x w → is_decision k r x ≡ is_decision k r w
  named_decision_name k r x w h = sym (is_decision-map (value_at values) k r x) ∙ ap (is_decision k r) h ∙ is_decision-map Some k r w

  pub named_all : (b : Bool) (x : AnyWire ℕ) (w : Wire) → NamesWire values x w →
      NamesMail values (if b then All x else Nobody) (if b then All w else Nobody)
  named_all b x w h = grind arith
