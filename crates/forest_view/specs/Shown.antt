-- What a tree is after the inodes and names of some ids came to it.
use Rattle.std.specs.Prelude.{ℕ, ◌==◌, Option, Some, None, List, [], ◌∷◌, if◌then◌else◌}
use Rattle.forest_ops.specs.Parts.{with_bare_directory, with_link, with_zeros}
use Rattle.plain_forest.specs.Forest.{Tree}
use Rattle.vol_digest.specs.Digests.{slot_of}
use Rattle.vol_types.specs.KeyMaps.{KeyMap}
use Rattle.vol_types.specs.declared.positions.Btree.TheVariants.{Dirents, Inodes}
use Rattle.vol_types.specs.declared.values.FileKind.{FileKind}
use Rattle.vol_types.specs.declared.values.FileKind.TheVariants.{File, Directory}
use Rattle.vol_types.specs.declared.values.Inode.{Inode}
use Rattle.vol_types.specs.declared.values.Link.{Link}
use Rattle.key_meaning.specs.Forest.{inode_of, links_of}
use Rattle.key_meaning.specs.Visible.{own_value}
use Rattle.forest_view.specs.Nearest.{Nearest}

-- the tree with a file of zeros or a bare directory
abbrev pub with_kind : ℕ → FileKind → ℕ → Tree → Tree
with_kind number File size tree = with_zeros number size tree
with_kind number Directory size tree = with_bare_directory number tree

-- the tree with what an inode says
abbrev pub with_inode : ℕ → Inode → Tree → Tree
with_inode number inode tree = with_kind number inode.kind inode.size tree

-- the tree with what an inode says, if there is one
abbrev pub with_inode_maybe : ℕ → Option Inode → Tree → Tree
with_inode_maybe number None tree = tree
with_inode_maybe number (Some inode) tree = with_inode number inode tree

-- the tree with what a number stands for in an id itself, where the place is one of inodes
abbrev pub with_number : KeyMap → ℕ → ℕ → ℕ → Tree → Tree
with_number keys inode number id tree = if inode == 0 then with_inode_maybe number (inode_of (own_value keys Inodes 0 number id)) tree else tree

-- the tree with what numbers stand for in the ids at their places
abbrev pub with_inodes : KeyMap → Nearest → Tree → Tree
with_inodes keys [] tree = tree
with_inodes keys (near ∷ nearest) tree = with_inodes keys nearest (with_number keys near.0.0 near.0.1 near.1 tree)

-- the tree with a name of a directory, if it stands under its slot
abbrev pub with_link_in : ℕ → ℕ → Link → Tree → Tree
with_link_in directory slot link tree = if slot_of link.name == slot then with_link (record { directory = directory; name = link.name; number = link.number }) tree else tree

-- the tree with those of some names of a directory that stand under their slot
abbrev pub with_links : ℕ → ℕ → List Link → Tree → Tree
with_links directory slot [] tree = tree
with_links directory slot (link ∷ links) tree = with_links directory slot links (with_link_in directory slot link tree)

-- the tree with the names that an id itself has under a slot of a directory
abbrev pub with_names_at : KeyMap → ℕ → ℕ → ℕ → Tree → Tree
with_names_at keys directory slot id tree = with_links directory slot (links_of (own_value keys Dirents directory slot id)) tree

-- the tree with the names of the ids at their places
abbrev pub with_names : KeyMap → Nearest → Tree → Tree
with_names keys [] tree = tree
with_names keys (near ∷ nearest) tree = with_names keys nearest (with_names_at keys near.0.0 near.0.1 near.1 tree)
