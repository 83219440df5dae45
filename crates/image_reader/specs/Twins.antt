-- Nodes by their births.
use Rattle.image_view.specs.Trees.{first_place}
use Rattle.vol_types.specs.declared.pointers.NodePtr.{NodePtr}
use Rattle.image_reader.specs.declared.twins.Born.{Born}

-- a node by its birth and its first place
abbrev pub born : NodePtr → Born
born pointer = record { birth = pointer.birth; place = first_place pointer }
