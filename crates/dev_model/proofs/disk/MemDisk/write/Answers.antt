use Rattle.std.proofs.Common.{◌≡◌, ◌<◌, [], ◌∷◌, ◌++◌, get_or, length, set, ap, ◌∙◌, sym, subst, rules}
use Rattle.std.proofs.lemmas.List.Elements.{All-get_or}
use Rattle.dev_model.specs.Disk.{Disk, IsBlock}
use Rattle.dev_model.specs.MemDisks.{IsKept, disk_by}
use Rattle.dev_model.specs.declared.disk.Overwritten.{Overwritten}
use Rattle.dev_model.proofs.KeptBlocks.{disk_by-written, written_is_kept}
use Rattle.dev_model.proofs.disk.MemDisk.write.Goals as goal

pub returns-clause-ok : goal.returns-clause-ok
returns-clause-ok c = rw (← c.self.view_is) (
    let d = c.self.inside in
    let one : Overwritten = record { block = c.args.block; bytes = c.replace-bytes.result; asked = c.args.asked } in
    let pushed : c.push.new.self.items ≡ d.overwritten.items ++ one ∷ [] = search rules in
    let was : one.bytes ≡ get_or d.blocks.items c.args.block one.bytes = search rules in
    ap (λ os. disk_by (set d.blocks.items c.args.block c.replace-bytes.new.dest) os d.shortest) pushed
    ∙ ap (λ bs. disk_by (set d.blocks.items c.args.block bs) (d.overwritten.items ++ one ∷ []) d.shortest) c.replace-bytes.ensures.after
    ∙ disk_by-written d.blocks.items d.overwritten.items d.shortest one c.args.left was)

pub invariant_of-self-2 : goal.invariant_of-self-2
invariant_of-self-2 c =
    let d = c.self.inside in
    let one : Overwritten = record { block = c.args.block; bytes = c.replace-bytes.result; asked = c.args.asked } in
    let pushed : c.push.new.self.items ≡ d.overwritten.items ++ one ∷ [] = search rules in
    let was : one.bytes ≡ get_or d.blocks.items c.args.block one.bytes = search rules in
    let within : c.args.block < length d.blocks.items = subst (λ (disk : Disk). c.args.block < length disk.blocks) (sym c.self.view_is) c.requires.place in
    let was_block : IsBlock one.bytes = subst IsBlock (sym was) (All-get_or IsBlock d.blocks.items c.args.block one.bytes within c.self.invariant.disk.blocks) in
    let kept = written_is_kept d.blocks.items d.overwritten.items d.shortest one c.args.left was c.self.invariant c.requires.size was_block within in
    subst (λ os. IsKept (set d.blocks.items c.args.block c.replace-bytes.new.dest) os d.shortest) (sym pushed)
    (subst (λ bs. IsKept (set d.blocks.items c.args.block bs) (d.overwritten.items ++ one ∷ []) d.shortest) (sym c.replace-bytes.ensures.after) kept)
