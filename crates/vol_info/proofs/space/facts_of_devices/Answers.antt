use Rattle.std.proofs.Common.{◌≡◌, ◌∙◌, List, map, length, ap, subst}
use Rattle.std.specs.Prelude.{IfOk}
use Rattle.std.specs.List.{flat_map, range_with_len}
use Rattle.bucket_pool.specs.Opening.{space_of}
use Rattle.bucket_pool.specs.Space.{Space}
use Rattle.image_reader.specs.declared.found.FoundBtree.{FoundBtree}
use Rattle.image_reader.specs.Volumes.{found_of}
use Rattle.vol_types.specs.KeyMaps.{Entries, entries_of, keys_in}
use Rattle.vol_types.specs.declared.keys.Key.{Key}
use Rattle.vol_types.specs.declared.pointers.Place.{Place}
use Rattle.vol_types.specs.declared.positions.Btree.TheVariants.{Alloc}
use Rattle.vol_info.specs.Facts.{device_facts, places_in}
use Rattle.vol_info.proofs.FoundBtrees.{places_found}
use Rattle.vol_info.proofs.space.facts_of_devices.Goals as goal

pub returns : goal.returns
returns c =
    let found = c.args.found.now in
    let layout = found.layout in
    let keys = keys_in (entries_of (found_of found).trees.keys Alloc) in
    let live : c.in_ok-live.live ≡ keys = c.in_ok-live.ensures ∙ ap (λ (entries : Entries). keys_in entries) c.entries_of.ensures in
    let nodes = c.in_ok-nodes.ensures ∙ ap (λ (btrees : List FoundBtree). flat_map places_in btrees) c.as_slice.ensures ∙ places_found found.btrees in
    let pool = c.in_ok-pool.ensures ∙ ap (λ (list : List Key). space_of layout list c.in_ok-nodes.nodes) live ∙ ap (λ (places : List Place). space_of layout keys places) nodes in
    subst (λ (space : Space). IfOk c.facts_of_space.result (λ facts. facts ≡ map (device_facts space) (range_with_len 0 (length layout.blocks)))) pool c.facts_of_space.ensures
