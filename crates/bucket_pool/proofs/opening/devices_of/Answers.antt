use Rattle.std.proofs.Common.{◌≡◌, ◌≤◌, ◌∙◌, ◌+◌, ◌/◌, ◌++◌, ap, sym, subst, length, map, take, drop, length-take, arith}
use Rattle.bucket_pool.specs.Opening.{blank, blank_device}
use Rattle.bucket_pool.proofs.Blanks.{enough, few_devices, first_fit, others_fit}
use Rattle.bucket_pool.proofs.opening.devices_of.Goals as goal

pub split_at-requires : goal.split_at-requires
split_at-requires c = subst (λ blocks. c.args.layout.now.metadata_replicas ≤ length blocks) (sym c.as_slice.ensures) (enough c.args.layout.now c.requires)

pub add_devices-requires : goal.add_devices-requires
add_devices-requires c =
    let m = c.args.layout.now.metadata_replicas in
    first_fit c.args.layout.now c.requires m c.split_at.result.0.now (c.split_at.ensures.front ∙ ap (take m) c.as_slice.ensures)

pub add_devices-requires-2 : goal.add_devices-requires-2
add_devices-requires-2 c =
    let m = c.args.layout.now.metadata_replicas in
    others_fit c.args.layout.now c.requires m c.split_at.result.1.now (c.split_at.ensures.back ∙ ap (drop m) c.as_slice.ensures)

pub returns-clause-few : goal.returns-clause-few
returns-clause-few c =
    let layout = c.args.layout.now in
    let m = layout.metadata_replicas in
    let devices = c.add_devices-2.new.devices in
    let made : devices.items ≡ blank layout =
    c.in_ok-add_devices-2.ensures
    ∙ ap (λ list. list ++ map (blank_device 1) c.split_at.result.1.now) (c.in_ok-add_devices.ensures ∙ ap (λ list. list ++ map (blank_device (1 + layout.journal / 16)) c.split_at.result.0.now) c.new-devices.ensures.items)
    ∙ ap (λ list. map (blank_device (1 + layout.journal / 16)) list ++ map (blank_device 1) c.split_at.result.1.now) (c.split_at.ensures.front ∙ ap (take m) c.as_slice.ensures)
    ∙ ap (λ list. map (blank_device (1 + layout.journal / 16)) (take m layout.blocks) ++ map (blank_device 1) list) (c.split_at.ensures.back ∙ ap (drop m) c.as_slice.ensures) in
    let count : devices.len ≡ length devices.items = sym c.deref_mut.ensures.len ∙ ap length c.deref_mut.ensures.value in
    omega (arith, few_devices layout c.requires devices.items made, count, length-take devices.len (c.put_places.new.devices ++ drop (length c.put_places.new.devices) (take devices.len (c.put_keys.new.devices ++ drop (length c.put_keys.new.devices) devices.items))))
