use Rattle.std.proofs.Common.{◌∙◌, List, Ok, Err, map, ap}
use Rattle.std.specs.Option.{option_map_or}
use Rattle.image_view.specs.Trees.{joined, nodes_of}
use Rattle.vol_types.specs.declared.pointers.Place.{Place}
use Rattle.std.proofs.Common.{Option}
use Rattle.image_reader.specs.Twins.{born}
use Rattle.image_reader.specs.Volumes.{btree_in}
use Rattle.image_reader.specs.declared.found.FoundBtree.{FoundBtree}
use Rattle.image_reader.proofs.TwinsTold.{own_births}
use Rattle.image_reader.proofs.twins.with_own_births.Goals as goal

pub returns-in-Some-clause-found : goal.returns-in-Some-clause-found
returns-in-Some-clause-found c =
    own_births c.args.btrees c.in_ok-place.field-0
    (λ pointers is. c.in_ok-place.ensures pointers (c.as_slice-2.ensures ∙ c.in_ok-nodes.ensures ∙ ap (λ (bs : List FoundBtree). map born (nodes_of (map (λ (b : FoundBtree). b.levels) bs))) c.as_slice.ensures ∙ is))
    ∙ ap (λ (o : Option Place). option_map_or (λ (p : Place). Err p) o (Ok (joined (map btree_in c.args.btrees)))) c.in-Some.is

pub returns-in-None-clause-found : goal.returns-in-None-clause-found
returns-in-None-clause-found c =
    own_births c.args.btrees c.in_ok-place.field-0
    (λ pointers is. c.in_ok-place.ensures pointers (c.as_slice-2.ensures ∙ c.in_ok-nodes.ensures ∙ ap (λ (bs : List FoundBtree). map born (nodes_of (map (λ (b : FoundBtree). b.levels) bs))) c.as_slice.ensures ∙ is))
    ∙ ap (λ (o : Option Place). option_map_or (λ (p : Place). Err p) o (Ok (joined (map btree_in c.args.btrees)))) c.in-None.is
