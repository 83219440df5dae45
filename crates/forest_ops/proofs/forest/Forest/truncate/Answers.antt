use Rattle.std.proofs.Common.{◌≡◌, Ok, length, ap, ◌∙◌}
use Rattle.forest_ops.specs.Refusals.{◌>>=◌}
use Rattle.forest_ops.specs.Walking.{File}
use Rattle.forest_ops.specs.Content.{resized, cut_size}
use Rattle.forest_ops.specs.Trees.{with_bytes}
use Rattle.forest_ops.specs.Steps.{next_of, came_to, in_subvolume, sized_file, forest_or}
use Rattle.forest_ops.proofs.forest.Forest.truncate.Goals as goal

pub returns-in_ok-change-in-Ok-clause-forest : goal.returns-in_ok-change-in-Ok-clause-forest
returns-in_ok-change-in-Ok-clause-forest c =
    let old = c.args.self.now in
    let path = c.args.path.now in
    let wanted = c.args.wanted in
    let file : File = record { tree = c.in-Ok.file.tree.now; number = c.in-Ok.file.number; bytes = c.in-Ok.file.content.now } in
    let found : Ok file ≡ sized_file path wanted old = c.in-Ok.ensures ∙ ap (λ n. sized_file path n old) c.from.ensures in
    let size : c.cut_size-size.result ≡ cut_size (length file.bytes) wanted = c.cut_size-size.ensures ∙ ap (λ n. cut_size n wanted) c.len.ensures in
    c.in_ok-change-in-Ok.ensures.ok
    ∙ ap (λ s. in_subvolume path.sub (with_bytes file.number (resized s)) old) size
    ∙ ap (λ r. forest_or old (r >>= λ (f : File). Ok (next_of (came_to (cut_size (length f.bytes) wanted) wanted) (in_subvolume path.sub (with_bytes f.number (resized (cut_size (length f.bytes) wanted))) old)))) found
