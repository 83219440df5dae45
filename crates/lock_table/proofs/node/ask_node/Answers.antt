use Rattle.std.proofs.Common.{◌<◌, ℕ, sym, ap, ◌∙◌, Some, IsSome, subst, refl, nat_cmp}
use Rattle.std.specs.BTreeMap.{is_at}
use Rattle.std.specs.Map.{set_value}
use Rattle.std.proofs.lemmas.Map.Steps.{set_value_same}
use Rattle.std.proofs.lemmas.Option.{same_Some}
use Rattle.lock_table.specs.Calls.{mode_of}
use Rattle.lock_table.specs.Nodes.{IsInUse, EachInUse}
use Rattle.lock_table.specs.declared.node.Node.{Node}
use Rattle.lock_table.proofs.InUse.{changes, in_use_changed, in_use_asked, in_use_new, asks_here}
use Rattle.lock_table.proofs.node.ask_node.Goals as goal

pub ask_lock-requires : goal.ask_lock-requires
ask_lock-requires c = subst (λ (n : ℕ). c.args.actor < n) (sym (c.requires.in_use c.args.name.now.birth c.in-Some.node.now (sym c.in-Some.ensures.value)).sized) c.requires.actor

pub returns-in-Some-clause-ok : goal.returns-in-Some-clause-ok
returns-in-Some-clause-ok c =
    let was : Node = c.in-Some.node.now in
    let now : Node = record { name = was.name; lock = c.ask_lock.new.lock } in
    let is = sym c.in-Some.ensures.value in
    let at = is_at (nat_cmp c.args.name.now.birth) in
    let written = c.get_mut.follows.holds now in
    let update = written.3 (subst IsSome c.in-Some.ensures.value refl) in
    asks_here c.args.sequence c.args.nodes.now.entries _ c.args.actor c.args.name.now (mode_of c.args.mode) c.ask_lock.result was now is refl (changes _ _ _ _ update.1 update.2)
    (λ same. written.0 ∙ ap (set_value at c.args.nodes.now.entries) same ∙ set_value_same at c.args.nodes.now.entries was is)
    c.ask_lock.ensures

pub returns-in-Some-clause-in_use : goal.returns-in-Some-clause-in_use
returns-in-Some-clause-in_use c =
    let was : Node = c.in-Some.node.now in
    let now : Node = record { name = was.name; lock = c.ask_lock.new.lock } in
    let update = (c.get_mut.follows.holds now).3 (subst IsSome c.in-Some.ensures.value refl) in
    in_use_changed c.args.count c.args.nodes.now.entries _ c.args.name.now.birth (Some now) c.requires.in_use (changes _ _ _ _ update.1 update.2)
    (λ n same. subst (IsInUse c.args.count) (same_Some now n same)
    (in_use_asked c.args.count c.args.actor (mode_of c.args.mode) c.ask_lock.result was now (c.requires.in_use c.args.name.now.birth was (sym c.in-Some.ensures.value)) c.ask_lock.ensures))

pub returns-in_err-lock-clause-in_use : goal.returns-in_err-lock-clause-in_use
returns-in_err-lock-clause-in_use c = subst (EachInUse c.args.count) (ap (λ m. m.entries) (sym c.get_mut.follows.holds-at-none)) c.requires.in_use

pub returns-in_err-insert-clause-in_use : goal.returns-in_err-insert-clause-in_use
returns-in_err-insert-clause-in_use c = subst (EachInUse c.args.count) (sym (c.in_err-insert.ensures.err ∙ ap (λ m. m.entries) c.get_mut.follows.holds-at-none)) c.requires.in_use

pub returns-clause-in_use : goal.returns-clause-in_use
returns-clause-in_use c =
    let now : Node = record { name = c.args.name.now; lock = c.ask_lock-answer.new.lock } in
    let update = c.in_ok-insert.ensures.updates in
    let before : EachInUse c.args.count c.get_mut.follows.lender-at-none.entries = subst (EachInUse c.args.count) (ap (λ m. m.entries) (sym c.get_mut.follows.holds-at-none)) c.requires.in_use in
    in_use_changed c.args.count c.get_mut.follows.lender-at-none.entries _ c.args.name.now.birth (Some now) before (changes _ _ _ _ update.1 update.2)
    (λ n same. subst (IsInUse c.args.count) (same_Some now n same)
    (in_use_new c.args.count c.args.actor (mode_of c.args.mode) c.ask_lock-answer.result c.in_ok-lock.lock now c.in_ok-lock.ensures.0 c.in_ok-lock.ensures.1 c.ask_lock-answer.ensures))
