use Rattle.std.proofs.Common.{◌≡◌, map, sym, ap, ◌∙◌, nat_cmp}
use Rattle.plain_forest.specs.Maps.{value_at}
use Rattle.forest_ops.specs.Walking.{Inode, Directory, File, inode_at, directory_at, file_at}
use Rattle.forest_ops.specs.Content.{part_of}
use Rattle.forest_ops.specs.Steps.{forest_after, flagged, status_of}
use Rattle.forest_ops.specs.declared.operation.Reply.TheVariants.{Synced, Content, List as Listed}
use Rattle.forest_ops.proofs.Keeping.{telling_keeps, on_any}
use Rattle.forest_ops.proofs.forest.Forest.apply.Goals as goal

pub returns-in-Read-clause-forest : goal.returns-in-Read-clause-forest
returns-in-Read-clause-forest c =
    let old = c.args.self.now in
    on_any c.read.result (old ≡ forest_after c.args.client c.args.op.now old)
    (sym (ap (λ op. forest_after c.args.client op old) c.in-Read.is ∙ telling_keeps old (file_at c.in-Read.path old) (λ (file : File). Content (part_of c.in-Read.offset c.in-Read.len file.bytes))))

pub returns-in-Ls-clause-forest : goal.returns-in-Ls-clause-forest
returns-in-Ls-clause-forest c =
    let old = c.args.self.now in
    on_any c.list.result (old ≡ forest_after c.args.client c.args.op.now old)
    (sym (ap (λ op. forest_after c.args.client op old) c.in-Ls.is ∙ telling_keeps old (directory_at c.in-Ls.path old) (λ (directory : Directory). Listed (map (flagged directory.tree) directory.names))))

pub returns-in-Stat-clause-forest : goal.returns-in-Stat-clause-forest
returns-in-Stat-clause-forest c =
    let old = c.args.self.now in
    sym (ap (λ op. forest_after c.args.client op old) c.in-Stat.is ∙ telling_keeps old (inode_at c.in-Stat.path old) (λ (inode : Inode). status_of inode (value_at nat_cmp inode.number inode.tree.directories)))

pub returns-in-Fsync-clause-forest : goal.returns-in-Fsync-clause-forest
returns-in-Fsync-clause-forest c =
    let old = c.args.self.now in
    sym (ap (λ op. forest_after c.args.client op old) c.in-Fsync.is ∙ telling_keeps old (inode_at c.in-Fsync.path old) (λ (inode : Inode). Synced 0))
