-- Each operation comes to its updates, its refusal or its answer.
use Rattle.std.proofs.Common.{[], ap, refl}
use Rattle.forest_ops.specs.declared.operation.Op.TheVariants.{Delsub, Fsync, Link, Ls, Mkdir, Mkfile, Rename, Rmdir, Snap, Stat, Subs, Subvol, Unlink}
use Rattle.forest_ops.specs.declared.operation.Reply.TheVariants.{SubNames}
use Rattle.fs_plan.proofs.Idle.{fsync_leaves, idle_plan, list_leaves, stat_leaves}
use Rattle.fs_plan.proofs.Outcomes.{changed_plan, moved_plan, same_plan}
use Rattle.fs_plan.specs.Outcomes.{answered, changed, moved}
use Rattle.fs_plan.specs.Updating.{updates_or}
use Rattle.fs_plan.proofs.planning.outcome.Goals as goal

pub returns-in_ok-made-in-Mkdir-clause-plan : goal.returns-in_ok-made-in-Mkdir-clause-plan
returns-in_ok-made-in-Mkdir-clause-plan g c = λ keys nodes layout given sound tidy.
    let op = Mkdir c.in-Mkdir.path in
    let made = c.in_ok-made-in-Mkdir.made in
    same_plan keys nodes layout c.args.client c.args.op.now op c.changed.result (changed made) c.in-Mkdir.is c.changed.ensures
    (changed_plan keys nodes layout c.args.client op made (λ forest. refl) (ap updates_or (c.in_ok-made-in-Mkdir.ensures.is keys given)) (c.in_ok-made-in-Mkdir.ensures.made keys nodes layout given sound tidy) sound tidy)

pub returns-in_ok-made-in-Mkfile-clause-plan : goal.returns-in_ok-made-in-Mkfile-clause-plan
returns-in_ok-made-in-Mkfile-clause-plan g c = λ keys nodes layout given sound tidy.
    let op = Mkfile c.in-Mkfile.path in
    let made = c.in_ok-made-in-Mkfile.made in
    same_plan keys nodes layout c.args.client c.args.op.now op c.changed-in-Mkfile.result (changed made) c.in-Mkfile.is c.changed-in-Mkfile.ensures
    (changed_plan keys nodes layout c.args.client op made (λ forest. refl) (ap updates_or (c.in_ok-made-in-Mkfile.ensures.is keys given)) (c.in_ok-made-in-Mkfile.ensures.made keys nodes layout given sound tidy) sound tidy)

pub returns-in_ok-link-in-Link-clause-plan : goal.returns-in_ok-link-in-Link-clause-plan
returns-in_ok-link-in-Link-clause-plan g c = λ keys nodes layout given sound tidy.
    let op = Link c.in-Link.from c.in-Link.to in
    let made = c.in_ok-link-in-Link.field-0 in
    same_plan keys nodes layout c.args.client c.args.op.now op c.changed-in-Link.result (changed made) c.in-Link.is c.changed-in-Link.ensures
    (changed_plan keys nodes layout c.args.client op made (λ forest. refl) (ap updates_or (c.in_ok-link-in-Link.ensures.is keys given)) (c.in_ok-link-in-Link.ensures.made keys nodes layout given sound tidy) sound tidy)

pub returns-in_ok-unlink-in-Unlink-clause-plan : goal.returns-in_ok-unlink-in-Unlink-clause-plan
returns-in_ok-unlink-in-Unlink-clause-plan g c = λ keys nodes layout given sound tidy.
    let op = Unlink c.in-Unlink.path in
    let made = c.in_ok-unlink-in-Unlink.field-0 in
    same_plan keys nodes layout c.args.client c.args.op.now op c.changed-in-Unlink.result (changed made) c.in-Unlink.is c.changed-in-Unlink.ensures
    (changed_plan keys nodes layout c.args.client op made (λ forest. refl) (ap updates_or (c.in_ok-unlink-in-Unlink.ensures.is keys given)) (c.in_ok-unlink-in-Unlink.ensures.made keys nodes layout given sound tidy) sound tidy)

pub returns-in_ok-remove_directory-in-Rmdir-clause-plan : goal.returns-in_ok-remove_directory-in-Rmdir-clause-plan
returns-in_ok-remove_directory-in-Rmdir-clause-plan g c = λ keys nodes layout given sound tidy.
    let op = Rmdir c.in-Rmdir.path in
    let made = c.in_ok-remove_directory-in-Rmdir.field-0 in
    same_plan keys nodes layout c.args.client c.args.op.now op c.changed-in-Rmdir.result (changed made) c.in-Rmdir.is c.changed-in-Rmdir.ensures
    (changed_plan keys nodes layout c.args.client op made (λ forest. refl) (ap updates_or (c.in_ok-remove_directory-in-Rmdir.ensures.is keys given)) (c.in_ok-remove_directory-in-Rmdir.ensures.made keys nodes layout given sound tidy) sound tidy)

pub returns-in_ok-rename-in-Rename-clause-plan : goal.returns-in_ok-rename-in-Rename-clause-plan
returns-in_ok-rename-in-Rename-clause-plan g c = λ keys nodes layout given sound tidy.
    let from = c.in-Rename.from in
    let to = c.in-Rename.to in
    let made = c.in_ok-rename-in-Rename.field-0 in
    let ensures = c.in_ok-rename-in-Rename.ensures in
    same_plan keys nodes layout c.args.client c.args.op.now (Rename from to) c.moved.result (moved made) c.in-Rename.is c.moved.ensures
    (moved_plan keys nodes layout c.args.client from to made ensures.idle (ensures.is keys given) (ensures.made keys nodes layout given sound tidy) sound tidy)

pub returns-in_ok-list-in-Ls-clause-plan : goal.returns-in_ok-list-in-Ls-clause-plan
returns-in_ok-list-in-Ls-clause-plan g c = λ keys nodes layout given sound tidy.
    let op = Ls c.in-Ls.path in
    let reply = c.in_ok-list-in-Ls.field-0 in
    same_plan keys nodes layout c.args.client c.args.op.now op c.answered.result (answered reply) c.in-Ls.is c.answered.ensures
    (idle_plan keys nodes layout c.args.client op [] reply (list_leaves c.args.client c.in-Ls.path) refl refl (λ forest. refl) (λ read. c.in_ok-list-in-Ls.ensures.reply keys read given sound.leaves sound.names) sound tidy)

pub returns-in_ok-stat-in-Stat-clause-plan : goal.returns-in_ok-stat-in-Stat-clause-plan
returns-in_ok-stat-in-Stat-clause-plan g c = λ keys nodes layout given sound tidy.
    let op = Stat c.in-Stat.path in
    let reply = c.in_ok-stat-in-Stat.field-0 in
    same_plan keys nodes layout c.args.client c.args.op.now op c.answered-in-Stat.result (answered reply) c.in-Stat.is c.answered-in-Stat.ensures
    (idle_plan keys nodes layout c.args.client op [] reply (stat_leaves c.args.client c.in-Stat.path) refl refl (λ forest. refl) (λ read. c.in_ok-stat-in-Stat.ensures.reply keys read given sound.leaves sound.names sound.links tidy.drawn) sound tidy)

pub returns-in_ok-make_subvolume-in-Subvol-clause-plan : goal.returns-in_ok-make_subvolume-in-Subvol-clause-plan
returns-in_ok-make_subvolume-in-Subvol-clause-plan g c = λ keys nodes layout given sound tidy.
    let op = Subvol c.in-Subvol.name in
    let made = c.in_ok-make_subvolume-in-Subvol.field-0 in
    same_plan keys nodes layout c.args.client c.args.op.now op c.changed-in-Subvol.result (changed made) c.in-Subvol.is c.changed-in-Subvol.ensures
    (changed_plan keys nodes layout c.args.client op made (λ forest. refl) (ap updates_or (c.in_ok-make_subvolume-in-Subvol.ensures.is keys given)) (c.in_ok-make_subvolume-in-Subvol.ensures.made keys nodes layout given sound tidy) sound tidy)

pub returns-in_ok-made-in-Snap-clause-plan : goal.returns-in_ok-made-in-Snap-clause-plan
returns-in_ok-made-in-Snap-clause-plan g c = λ keys nodes layout given sound tidy.
    let op = Snap c.in-Snap.source c.in-Snap.copy c.in-Snap.locked in
    let made = c.in_ok-made-in-Snap.made in
    same_plan keys nodes layout c.args.client c.args.op.now op c.changed-in-Snap.result (changed made) c.in-Snap.is c.changed-in-Snap.ensures
    (changed_plan keys nodes layout c.args.client op made (λ forest. refl) (ap updates_or (c.in_ok-made-in-Snap.ensures.is keys given)) (c.in_ok-made-in-Snap.ensures.made keys nodes layout given sound tidy) sound tidy)

pub returns-in_ok-remove_subvolume-in-Delsub-clause-plan : goal.returns-in_ok-remove_subvolume-in-Delsub-clause-plan
returns-in_ok-remove_subvolume-in-Delsub-clause-plan g c = λ keys nodes layout given sound tidy.
    let op = Delsub c.in-Delsub.name in
    let made = c.in_ok-remove_subvolume-in-Delsub.field-0 in
    same_plan keys nodes layout c.args.client c.args.op.now op c.changed-in-Delsub.result (changed made) c.in-Delsub.is c.changed-in-Delsub.ensures
    (changed_plan keys nodes layout c.args.client op made (λ forest. refl) (ap updates_or (c.in_ok-remove_subvolume-in-Delsub.ensures.is keys given)) (c.in_ok-remove_subvolume-in-Delsub.ensures.made keys nodes layout given sound tidy) sound tidy)

pub returns-in_ok-names-in-Subs-clause-plan : goal.returns-in_ok-names-in-Subs-clause-plan
returns-in_ok-names-in-Subs-clause-plan g c = λ keys nodes layout given sound tidy.
    let reply = SubNames c.in_ok-names-in-Subs.names in
    same_plan keys nodes layout c.args.client c.args.op.now Subs c.answered-in-Subs.result (answered reply) c.in-Subs.is c.answered-in-Subs.ensures
    (idle_plan keys nodes layout c.args.client Subs [] reply (λ forest. refl) refl refl (λ forest. refl) (λ read. ap SubNames (c.in_ok-names-in-Subs.ensures.names keys read given.gives given.is_map tidy)) sound tidy)

pub returns-in_ok-sync_at-in-Fsync-clause-plan : goal.returns-in_ok-sync_at-in-Fsync-clause-plan
returns-in_ok-sync_at-in-Fsync-clause-plan g c = λ keys nodes layout given sound tidy.
    let op = Fsync c.in-Fsync.path in
    let reply = c.in_ok-sync_at-in-Fsync.field-0 in
    same_plan keys nodes layout c.args.client c.args.op.now op c.answered-in-Fsync.result (answered reply) c.in-Fsync.is c.answered-in-Fsync.ensures
    (idle_plan keys nodes layout c.args.client op [] reply (fsync_leaves c.args.client c.in-Fsync.path) refl refl (λ forest. refl) (λ read. c.in_ok-sync_at-in-Fsync.ensures.reply keys read given) sound tidy)
