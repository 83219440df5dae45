use Rattle.std.proofs.Common.{◌≡◌, ◌<◌, ◌+◌, ◌-◌, [], length, ap, ◌∙◌, sym, subst, arith}
use Rattle.std.proofs.lemmas.List.{get_or_read}
use Rattle.dev_model.specs.Devices.{now}
use Rattle.dev_model.specs.Disk.{as_read}
use Rattle.journal_ring.specs.EntryBlocks.{ring_block}
use Rattle.journal_ring.specs.Rings.{IsRing, RingState, part_bytes, part_place, with_part}
use Rattle.journal_ring.proofs.Places.{asked_as, clear_part, crashes_as, holds_as, others_as, stands_as}
use Rattle.journal_ring.proofs.ring.Ring.write_part.Goals as goal

pub returns-in_err-write_mirrors-clause-clear : goal.returns-in_err-write_mirrors-clause-clear
returns-in_err-write_mirrors-clause-clear g c = clear_part c.args.self.now (subst (λ (r : RingState). IsRing r) c.self.view_is c.self.invariant) c.requires.left

pub returns-clause-clear : goal.returns-clause-clear
returns-clause-clear g c = clear_part c.args.self.now (subst (λ (r : RingState). IsRing r) c.self.view_is c.self.invariant) c.requires.left

pub returns-in_err-write_mirrors-clause-asks : goal.returns-in_err-write_mirrors-clause-asks
returns-in_err-write_mirrors-clause-asks g c tells opens =
    let s = c.self.inside in
    let inside : RingState = record { id = s.id; mirrors = s.mirrors; journal = s.journal; next = s.next; first = s.first; blocks = s.blocks.items; written = s.written } in
    let left : inside.written < length inside.blocks = subst (λ (r : RingState). r.written < length r.blocks) (sym c.self.view_is) c.requires.left in
    let place : c.ring_block-place.result ≡ part_place inside = c.ring_block-place.ensures.place ∙ ap (λ n. ring_block s.journal (s.next - n + s.written)) (let e : c.len.result ≡ length s.blocks.items = omega (arith, c.len.ensures, s.blocks.ok.0) in e) in
    let bytes : c.index.result.now ≡ part_bytes inside = get_or_read s.blocks.items s.written c.index.result.now left c.index.ensures [] in
    asked_as opens (g.D.Devices.state c.args.devices.now) (g.D.Devices.state c.write_mirrors.new.devices) inside c.args.self.now c.ring_block-place.result c.index.result.now c.self.view_is place bytes (c.write_mirrors.ensures.asks tells opens)

pub returns-clause-asks : goal.returns-clause-asks
returns-clause-asks g c tells opens =
    let s = c.self.inside in
    let inside : RingState = record { id = s.id; mirrors = s.mirrors; journal = s.journal; next = s.next; first = s.first; blocks = s.blocks.items; written = s.written } in
    let left : inside.written < length inside.blocks = subst (λ (r : RingState). r.written < length r.blocks) (sym c.self.view_is) c.requires.left in
    let place : c.ring_block-place.result ≡ part_place inside = c.ring_block-place.ensures.place ∙ ap (λ n. ring_block s.journal (s.next - n + s.written)) (let e : c.len.result ≡ length s.blocks.items = omega (arith, c.len.ensures, s.blocks.ok.0) in e) in
    let bytes : c.index.result.now ≡ part_bytes inside = get_or_read s.blocks.items s.written c.index.result.now left c.index.ensures [] in
    asked_as opens (g.D.Devices.state c.args.devices.now) (g.D.Devices.state c.write_mirrors.new.devices) inside c.args.self.now c.ring_block-place.result c.index.result.now c.self.view_is place bytes (c.write_mirrors.ensures.asks tells opens)

pub returns-clause-held : goal.returns-clause-held
returns-clause-held g c tells =
    let s = c.self.inside in
    let inside : RingState = record { id = s.id; mirrors = s.mirrors; journal = s.journal; next = s.next; first = s.first; blocks = s.blocks.items; written = s.written } in
    let left : inside.written < length inside.blocks = subst (λ (r : RingState). r.written < length r.blocks) (sym c.self.view_is) c.requires.left in
    let place : c.ring_block-place.result ≡ part_place inside = c.ring_block-place.ensures.place ∙ ap (λ n. ring_block s.journal (s.next - n + s.written)) (let e : c.len.result ≡ length s.blocks.items = omega (arith, c.len.ensures, s.blocks.ok.0) in e) in
    let bytes : c.index.result.now ≡ part_bytes inside = get_or_read s.blocks.items s.written c.index.result.now left c.index.ensures [] in
    let old = as_read (now (g.D.Devices.state c.args.devices.now)) in
    let new = as_read (now (g.D.Devices.state c.write_mirrors.new.devices)) in
    holds_as inside c.args.self.now c.ring_block-place.result c.index.result.now old new c.self.view_is place bytes c.self.invariant c.requires.left
    (c.in_ok-write_mirrors.ensures.written tells) (c.write_mirrors.ensures.elsewhere tells)

pub returns-in_err-write_mirrors-clause-crashes : goal.returns-in_err-write_mirrors-clause-crashes
returns-in_err-write_mirrors-clause-crashes g c tells =
    let s = c.self.inside in
    let inside : RingState = record { id = s.id; mirrors = s.mirrors; journal = s.journal; next = s.next; first = s.first; blocks = s.blocks.items; written = s.written } in
    let place : c.ring_block-place.result ≡ part_place inside = c.ring_block-place.ensures.place ∙ ap (λ n. ring_block s.journal (s.next - n + s.written)) (let e : c.len.result ≡ length s.blocks.items = omega (arith, c.len.ensures, s.blocks.ok.0) in e) in
    crashes_as inside c.args.self.now c.ring_block-place.result c.self.view_is place (g.D.Devices.state c.args.devices.now) (g.D.Devices.state c.write_mirrors.new.devices) (c.write_mirrors.ensures.crashes tells)

pub returns-in_err-write_mirrors-clause-elsewhere : goal.returns-in_err-write_mirrors-clause-elsewhere
returns-in_err-write_mirrors-clause-elsewhere g c tells =
    let s = c.self.inside in
    let inside : RingState = record { id = s.id; mirrors = s.mirrors; journal = s.journal; next = s.next; first = s.first; blocks = s.blocks.items; written = s.written } in
    let place : c.ring_block-place.result ≡ part_place inside = c.ring_block-place.ensures.place ∙ ap (λ n. ring_block s.journal (s.next - n + s.written)) (let e : c.len.result ≡ length s.blocks.items = omega (arith, c.len.ensures, s.blocks.ok.0) in e) in
    others_as inside c.args.self.now c.ring_block-place.result c.self.view_is place (as_read (now (g.D.Devices.state c.args.devices.now))) (as_read (now (g.D.Devices.state c.write_mirrors.new.devices))) (c.write_mirrors.ensures.elsewhere tells)

pub returns-clause-crashes : goal.returns-clause-crashes
returns-clause-crashes g c tells =
    let s = c.self.inside in
    let inside : RingState = record { id = s.id; mirrors = s.mirrors; journal = s.journal; next = s.next; first = s.first; blocks = s.blocks.items; written = s.written } in
    let place : c.ring_block-place.result ≡ part_place inside = c.ring_block-place.ensures.place ∙ ap (λ n. ring_block s.journal (s.next - n + s.written)) (let e : c.len.result ≡ length s.blocks.items = omega (arith, c.len.ensures, s.blocks.ok.0) in e) in
    crashes_as inside c.args.self.now c.ring_block-place.result c.self.view_is place (g.D.Devices.state c.args.devices.now) (g.D.Devices.state c.write_mirrors.new.devices) (c.write_mirrors.ensures.crashes tells)

pub returns-clause-elsewhere : goal.returns-clause-elsewhere
returns-clause-elsewhere g c tells =
    let s = c.self.inside in
    let inside : RingState = record { id = s.id; mirrors = s.mirrors; journal = s.journal; next = s.next; first = s.first; blocks = s.blocks.items; written = s.written } in
    let place : c.ring_block-place.result ≡ part_place inside = c.ring_block-place.ensures.place ∙ ap (λ n. ring_block s.journal (s.next - n + s.written)) (let e : c.len.result ≡ length s.blocks.items = omega (arith, c.len.ensures, s.blocks.ok.0) in e) in
    others_as inside c.args.self.now c.ring_block-place.result c.self.view_is place (as_read (now (g.D.Devices.state c.args.devices.now))) (as_read (now (g.D.Devices.state c.write_mirrors.new.devices))) (c.write_mirrors.ensures.elsewhere tells)

pub returns-clause-written : goal.returns-clause-written
returns-clause-written g c tells =
    let s = c.self.inside in
    let inside : RingState = record { id = s.id; mirrors = s.mirrors; journal = s.journal; next = s.next; first = s.first; blocks = s.blocks.items; written = s.written } in
    let left : inside.written < length inside.blocks = subst (λ (r : RingState). r.written < length r.blocks) (sym c.self.view_is) c.requires.left in
    let bytes : c.index.result.now ≡ part_bytes inside = get_or_read s.blocks.items s.written c.index.result.now left c.index.ensures [] in
    let place : c.ring_block-place.result ≡ part_place inside = c.ring_block-place.ensures.place ∙ ap (λ n. ring_block s.journal (s.next - n + s.written)) (let e : c.len.result ≡ length s.blocks.items = omega (arith, c.len.ensures, s.blocks.ok.0) in e) in
    stands_as inside c.args.self.now c.ring_block-place.result c.self.view_is place c.index.result.now (as_read (now (g.D.Devices.state c.write_mirrors.new.devices))) bytes (c.in_ok-write_mirrors.ensures.written tells)

pub returns-clause-ok : goal.returns-clause-ok
returns-clause-ok g c = ap with_part c.self.view_is
