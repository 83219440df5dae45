-- What is kept between operations is so at the opening, before any of them.
use Rattle.std.proofs.Common.{◌≡◌, ℕ, zero, suc, ◌∙◌, true, false, List, [], Option, None, refl, sym, ap, subst, arith}
use Rattle.std.specs.Prelude.{replicate, slice_index_or}
use Rattle.std.proofs.lemmas.List.Elements.{All-nil}
use Rattle.core_actors.specs.Actors.{holds, idle_actor}
use Rattle.core_state.specs.States.{State, actor_count, mine}
use Rattle.core_actors.specs.declared.actor.Actor.{Actor}
use Rattle.vol_types.specs.declared.failure.Halt.{Halt}
use Rattle.dev_model.specs.Devices.{DevicesState}
use Rattle.forest_ops.specs.History.{History, after_all, is_commit}
use Rattle.forest_ops.specs.HistoryLaws.{EachEntry-none}
use Rattle.forest_ops.specs.declared.operation.Entry.{Entry}
use Rattle.forest_ops.specs.Classes.{class_of}
use Rattle.forest_ops.specs.declared.operation.Class.TheVariants.{Syncs}
use Rattle.forest_ops.specs.declared.operation.Reply.TheVariants.{Spent}
use Rattle.image_view.specs.Found.{Found}
use Rattle.forest_ops.specs.Failures.{has_halted}
use Rattle.vol_session.specs.Marks.{forest_found}
use Rattle.vol_session.specs.Shortages.{IsHelped, ShortageState, no_shortage}
use Rattle.volume.specs.States.{BeganWithoutRoom, IsAtRest, IsBetween, KeepsFailures}

-- No entry tells a failure.
none_failed : (begun : Found) (start : DevicesState) → KeepsFailures begun start start None []
none_failed begun start = record {
  failed = refl;
  only = refl;
  halts = refl;
  no_commit = EachEntry-none (λ before entry. has_halted before ≡ true → is_commit (after_all (forest_found begun start) before) entry ≡ false);
  causes = record { calls = λ dev. omega arith; writes = λ dev. omega arith };
}

-- Among idle actors each is idle.
idle_among : (count client : ℕ) → slice_index_or (replicate count idle_actor) client idle_actor ≡ idle_actor
idle_among zero client = refl
idle_among (suc count) zero = refl
idle_among (suc count) (suc client) = idle_among count client

module _ (memory : State) (writes : memory.volume.halted ≡ None) (idle : memory.actors ≡ replicate actor_count idle_actor) (free : memory.turn ≡ None) where
  -- No actor has anything under way.
  idle_one : (client : ℕ) → mine memory client ≡ idle_actor
  idle_one client = ap (λ (actors : List Actor). slice_index_or actors client idle_actor) idle ∙ idle_among actor_count client

  rests : IsAtRest memory
  rests = record {
    clients = λ client few. record { operation = ap (λ (actor : Actor). actor.operation) (idle_one client); holds_nothing = ap holds (idle_one client) };
    turn = free;
  }

  pub between_opened : (tells : Type 0) (begun : Found) (start state : DevicesState) (trace : History) (shortages : ShortageState) → state ≡ start → trace ≡ [] → shortages ≡ no_shortage → IsBetween tells begun start state memory trace shortages
  between_opened tells begun start state trace shortages begins nothing none =
      subst (λ (s : DevicesState). IsBetween tells begun start s memory trace shortages) (sym begins)
      (subst (λ (t : History). IsBetween tells begun start start memory t shortages) (sym nothing) (record {
        rest = rests;
        failures = subst (λ (halted : Option Halt). KeepsFailures begun start start halted []) (sym writes) (none_failed begun start);
        unspent = λ far few. All-nil (λ (entry : Entry). entry.reply ≡ Spent → (class_of entry.op ≡ Syncs) × BeganWithoutRoom tells begun start);
        helped = subst IsHelped (sym none) (record { met = refl; tried = refl });
      }))
