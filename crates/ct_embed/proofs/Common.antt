-- The names that most proofs cite, passed on from one place. Declares nothing.
pub use Rattle.std.proofs.Common.{ap, arith, get_or, inl, inr, length, string_bytes, ℕ, ◌∙◌, ◌≡◌}
pub use Rattle.std.proofs.raw_atomic.Walks.{proved_at}
pub use Rattle.std_alloc.proofs.BoxSteps.Form.{B, Bx, D, P, R, X, args, box_ty, box_typed, handle, word, τ}
pub use Rattle.std_alloc.proofs.BoxSteps.Steps.{box_in, box_out}
pub use Rattle.std_alloc.specs.Box.Ownership.{box_owns}
pub use Rattle.core.proofs.alloc.Calls.{Al, Fits, Goes-blank, handle_tells, token, α}
pub use Rattle.ct_embed.specs.MessageCodes.{message_code}
pub use Rattle.ct_embed.specs.StepCodes.{step_code}
pub use Rattle.ct_model.specs.Rehearsal.{Rehearsal}
pub use Rattle.ct_names.specs.declared.refusal.Refusal.{Refusal}
pub use Rattle.ct_world.specs.Replay.{AllowsFirst, IsFaultOf, first_steps}
pub use base.Fml.{Lft, Share, flft, fsep, ftrue}
pub use base.Logic.{SProp, ent, fst∗, id⊢, never}
pub use contract.Monad.{Fun, fact}
pub use contract.Running.{tables}
pub use denote.Exit.{no, yes}
pub use denote.RawPtr.{Ptr, RawPtr, block_ptr, in_a_block, null_ptr, ptr_val}
pub use denote.Signature.{plain}
pub use denote.Steps.{heard, nothing, only}
pub use denote.Struct.Tuple.{Tuple}
pub use denote.Triple.Clauses.{Clauses, Ended}
pub use denote.Triple.Spec.{triple_of}
pub use denote.Triple.Statement.{Contract, Triple}
pub use denote.Triple.Table.{entered}
pub use denote.Triple.Walked.{Stays, ends_at, says, stay_dropped, walk_Meets, walk_of}
pub use lib.Dec.{T, lit<}
pub use mathlib.Core.Bool.{true}
pub use mathlib.Core.List.{List, [], ◌++◌, ◌∷◌}
pub use mathlib.Core.Path.{refl, subst, sym}
pub use mir.MapTy.{inst_fn}
pub use mir.Raw.{raw as bare}
pub use mir.Val.{Val, WT, has_ty, of_list, vcons, vnil, vptr, vstruct}
pub use prog.Memory.{Memory}
pub use prog.Routine.{Routine}
pub use prog.Wp.{Tables, WpFn}
pub use seplogic.Ra.Ura.{Ura}
pub use sound.WpLaws.{WpFn-mono, fm_of}
pub use types.ByLocal.{alloc_all, env, free_all, get, get_in, lands_as, lands_last, look_at, pass_all, sets}
pub use types.Logic.{Logic}
pub use types.Part.{agg, sub, whole}
pub use types.Run.{and_then, blocks, enter, exec, first, fld, lit, no_more, of_opd, returns, stop}
