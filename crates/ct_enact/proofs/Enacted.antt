-- A run that matches what is told of logs has their deliveries.
use Rattle.std.proofs.Common.{◌≡◌, ℕ, List, Option, Some, None, slice_get, option_and_then, string_bytes, refl, sym, ap, ◌∙◌}
use Rattle.std.specs.HashMap.{get_by_text}
use Rattle.std.proofs.lemmas.Option.{none-some, same_Some}
use Rattle.ct_names.specs.Group.{IsMember}
use Rattle.ct_names.specs.Message.{Message}
use Rattle.ct_model.specs.Rehearsal.{Rehearsal, state_of}
use Rattle.ct_model.specs.Safe.{IsSafe, delivered_by}
use Rattle.ct_order.specs.declared.act.Act.TheVariants.{Broadcast, Deliver}
use Rattle.ct_order.specs.declared.place.Delivery.{Delivery}
use Rattle.ct_order.specs.declared.standing.Standing.{Standing}
use Rattle.ct_order.specs.declared.table.Table.{Table}
use Rattle.ct_order.specs.declared.told.Told.{Told}
use Rattle.ct_order.specs.Knowing.{KnowsTable}
use Rattle.ct_order.specs.Orders.{IsAtomic, IsIn, Said, said_at}
use Rattle.ct_enact.specs.Enacted.{IsEnacted, IsSentAs, Matches}
use Rattle.ct_enact.proofs.Places.{in_longer, one_place}

module _ (t : Table) (said : List Said) (ends : List Standing) (w : Rehearsal) (knows : KnowsTable t said) (atomic : IsAtomic said)
    (safe : IsSafe w.setting (state_of w)) (h : Matches t ends w) where
  abbrev all : List Message
  all = delivered_by (state_of w) h.first

  abbrev there : Delivery → Option Message
  there d = slice_get all d.at

  abbrev message : List ℕ → Option Message
  message x = option_and_then there (get_by_text t.placed x)

  -- where it is delivered
  at : (x : List ℕ) (m : Message) → message x ≡ Some m → (d : Delivery) × (get_by_text t.placed x ≡ Some d) × (there d ≡ Some m)
  at x m e = pick (get_by_text t.placed x) refl
    where
      pick : (o : Option Delivery) → get_by_text t.placed x ≡ o → (d : Delivery) × (get_by_text t.placed x ≡ Some d) × (there d ≡ Some m)
      pick None is = absurd (none-some m (sym (ap (option_and_then there) is) ∙ e))
      pick (Some d) is = (d, is, sym (ap (option_and_then there) is) ∙ e)

  once : (x y : List ℕ) (m : Message) → message x ≡ Some m → message y ≡ Some m → x ≡ y
  once x y m hx hy =
      let a = at x m hx in
      let b = at y m hy in
      let one : a.0.at ≡ b.0.at = one_place all a.0.at b.0.at m (safe.once h.first h.member) a.2 b.2 in
      let o = atomic.0.2 in
      same_Some x y
      (sym (o.delivered (said_at a.0.place a.0.at Deliver x) (knows.placed x a.0 a.1) refl)
      ∙ (ap atomic.0.0 one ∙ o.delivered (said_at b.0.place b.0.at Deliver y) (knows.placed y b.0 b.1) refl))

  broadcast : (x : List ℕ) (m : Message) → message x ≡ Some m → IsSentAs said x m
  broadcast x m e =
      let a = at x m e in
      let v = knows.order.all (said_at a.0.place a.0.at Deliver x) (knows.placed x a.0 a.1) refl in
      let p = h.origins a.0.at m a.2 in
      let told : p.told ≡ v.0 = same_Some p.told v.0 (sym p.there ∙ v.1) in
      let b = knows.sent (string_bytes p.told.word) p.place p.sent in
      record {
        line = said_at p.place b.0 Broadcast (string_bytes p.told.word);
        is_in = b.1;
        act = refl;
        word = ap (λ (u : Told). string_bytes u.word) told ∙ v.2;
        origin = p.origin;
      }

  same : (p : ℕ) (s : Said) (m : Message) → IsMember w.setting.members p → IsIn s said → s.act ≡ Deliver →
      slice_get (delivered_by (state_of w) p) s.at ≡ Some m → message s.word ≡ Some m
  same p s m member i act e =
      let v = knows.order.all s i act in
      let d = knows.once s.at v.0 v.1 in
      ap message (sym v.2)
      ∙ (ap (option_and_then there) d.1
      ∙ (ap (slice_get all) d.2
      ∙ in_longer (delivered_by (state_of w) p) all s.at m (safe.one_order p h.first member h.member) (h.longest p member) e))

  pub is_enacted : IsEnacted said ends w
  is_enacted = record {
    message = message;
    once = once;
    broadcast = broadcast;
    same = same;
    members = λ i end e. (h.lengths i end e).0;
    lengths = λ i end e. (h.lengths i end e).1;
  }
