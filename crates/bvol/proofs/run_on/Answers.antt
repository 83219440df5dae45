use Rattle.std.proofs.Common.{◌≡◌, ℕ, List, Some, Global, length, map, ap, sym, subst, ◌∙◌}
use Rattle.std.specs.Rc.{rc_str_bytes}
use Rattle.std.proofs.lemmas.List.{length-map}
use Rattle.shell.specs.Tasks.{task_of}
use Rattle.bvol.proofs.run_on.Goals as goal

pub run_task-ended-requires-after_bounds : goal.run_task-ended-requires-after_bounds
run_task-ended-requires-after_bounds g c κs within =
    let words = map (rc_str_bytes {Z = Global}) c.args.arguments.now in
    let many = ap (λ (sizes : List ℕ). length sizes) c.say_what_is_lost.ensures.sizes ∙ length-map c.in_ok-devices.devices.images.items (λ image. image.blocks) ∙ c.in_ok-devices.ensures ∙ sym c.count_of.ensures in
    record { arguments = words; asked = subst (λ (n : ℕ). task_of n words ≡ Some c.in_ok-task.task) (sym many) c.in_ok-task.ensures.ok }

pub returns : goal.returns
returns g c =
    let words = map (rc_str_bytes {Z = Global}) c.args.arguments.now in
    let many = ap (λ (sizes : List ℕ). length sizes) c.say_what_is_lost.ensures.sizes ∙ length-map c.in_ok-devices.devices.images.items (λ image. image.blocks) ∙ c.in_ok-devices.ensures ∙ sym c.count_of.ensures in
    record {
      devices = c.say_what_is_lost.new.devices;
      ended = c.run_task-ended.result;
      keeps = c.run_task-ended.ensures words (subst (λ (n : ℕ). task_of n words ≡ Some c.in_ok-task.task) (sym many) c.in_ok-task.ensures.ok);
      status_is = c.status_told.ensures;
    }
