use Rattle.std.proofs.Common.{ℕ, List, ◌-◌, length, take, drop, ◌∙◌, ap, sym, arith, length-take, length-drop}
use Rattle.text_io.specs.Memory.{SourceState}
use Rattle.text_io.proofs.Lists.{prefix_and_rest}
use Rattle.text_io.proofs.memory.MemSourceSource.take.Goals as goal

pub returns-clause-bytes : goal.returns-clause-bytes
returns-clause-bytes c =
    let taken : ℕ = c.self.inside.taken in
    let n : ℕ = c.min-n.result in
    let whole = c.deref.ensures.value in
    let copied = c.copy_from_slice.ensures.after ∙ ap (λ (list : List ℕ). take n (take (length list - taken) (drop taken list))) whole in
    sym (ap (λ (source : SourceState). source.left) c.self.view_is) ∙ prefix_and_rest taken n c.self.inside.bytes.items c.copy_from_slice.new.self _ (omega (arith, length-take {A = ℕ}, length-drop {A = ℕ}, ap length whole)) copied
