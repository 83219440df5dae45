-- An index from which the births of new nodes are taken away again.
use Rattle.std.specs.Prelude.{◌==◌, ℕ, List, [], ◌∷◌, if◌then◌else◌}
use Rattle.std.specs.Ordering.{nat_cmp}
use Rattle.birth_index.specs.Births.{Index}
use Rattle.birth_index.specs.declared.name.Named.{Named}
use Rattle.vol_types.specs.Maps.{without}

-- the index without the births of new nodes, but the one that was to go
abbrev pub cleared : ℕ → List Named → Index → Index
cleared gone [] index = index
cleared gone (new ∷ news) index = cleared gone news (if new.birth == gone then index else without nat_cmp new.birth index)
