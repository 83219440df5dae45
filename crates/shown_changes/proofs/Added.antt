-- A new file, a new directory and a further name of a file: what shows then is good, and means the tree with it.
use Rattle.std.proofs.Common.{◌≡◌, ℕ, ◌+◌, ◌*◌, ◌≤◌, false, cond, Option, Some, None, List, [], refl, sym, ap, ◌∙◌, subst, arith}
use Rattle.std.specs.Prelude.{◌==◌, ◌&&◌, option_and_then, option_map}
use Rattle.std.specs.Ordering.{nat_cmp}
use Rattle.std.proofs.lemmas.Bool.{eq-eqb, ne_eqb, true≢false}
use Rattle.std.proofs.lemmas.Option.{same_Some, none-some as none_some}
use Rattle.plain_forest.specs.Forest.{Names, Tree}
use Rattle.plain_forest.specs.Maps.{changed_at}
use Rattle.vol_digest.specs.Digests.{slot_of}
use Rattle.vol_types.specs.Limits.{block_size}
use Rattle.vol_types.specs.Maps.{put_at, with_value}
use Rattle.vol_types.specs.Ranges.{name_cmp}
use Rattle.vol_types.specs.declared.values.FileKind.{FileKind}
use Rattle.vol_types.specs.declared.values.FileKind.TheVariants.{Directory, File}
use Rattle.vol_types.specs.declared.values.Inode.{Inode}
use Rattle.vol_types.specs.declared.values.Link.{Link}
use Rattle.vol_types.specs.declared.values.Sub.{Sub}
use Rattle.forest_ops.specs.Trees.{Place, with_directory, with_file, with_name}
use Rattle.key_meaning.specs.Checks.{count_names}
use Rattle.key_meaning.specs.Forest.{Read, is_directory, size_of}
use Rattle.key_steps.specs.Good.{IsLinkJoined, bare_tree}
use Rattle.key_steps.specs.Shown.{AreDirectoriesOf, AreFilesOf, Shown, kind_of, with_inode, with_links}
use Rattle.shown_changes.proofs.Directories.{directories_made, directories_named, directories_same}
use Rattle.shown_changes.proofs.Files.{files_made, files_same}
use Rattle.shown_changes.proofs.Formed.{formed, free_bare, good_after, held_kind, not_held}
use Rattle.shown_changes.proofs.Joined.{AreJoined, KeepKinds, joined_added, joined_still, kinds_kept, no_links_in}
use Rattle.shown_changes.proofs.Laws.{TreeLaws, one_for}
use Rattle.key_steps.specs.Names.{AddsName}
use Rattle.shown_changes.specs.Changes.{MeansGoodTree}
use Rattle.tree_changes.specs.Trees.{IsFreeName, IsNewNumber}
use Rattle.std.proofs.lemmas.List.Elements.{All-weaker}

-- one is counted for the number itself,
pub one_for_itself : (number : ℕ) → one_for number number ≡ 1
one_for_itself number = ap (λ b. cond {A = ℕ} b 1 0) (eq-eqb number number refl)

-- and none for others
pub none_for_others : (number other : ℕ) → (number == other) ≡ false → one_for number other ≡ 0
none_for_others number other apart = ap (λ b. cond {A = ℕ} b 1 0) apart

module _ (read : Read) (sub : Sub) (shown : Shown) (tree : Tree) (place : Place) (links : List Link) (kind : FileKind) (inode : Inode) (was : MeansGoodTree read sub shown tree) (free : IsFreeName place tree)
    (adds : AddsName (record { number = place.number; kind = kind; name = place.name }) (shown.links place.directory (slot_of place.name)) links) (is_kind : inode.kind ≡ kind)
    (was_kind : (old : FileKind) → kind_of shown place.number ≡ Some old → Some inode.kind ≡ Some old) where
  abbrev slot : ℕ
  slot = slot_of place.name

  abbrev link : Link
  link = record { number = place.number; kind = kind; name = place.name }

  -- with the name alone,
  abbrev named : Shown
  named = with_links place.directory slot links shown

  -- with the inode alone,
  abbrev inoded : Shown
  inoded = with_inode place.number (Some inode) shown

  -- and with both
  abbrev new : Shown
  new = with_links place.directory slot links inoded

  abbrev with_it : List (ℕ × Names)
  with_it = changed_at nat_cmp place.directory (with_value name_cmp place.name place.number) tree.directories

  -- The directory has the name.
  pub named_directories : AreDirectoriesOf named with_it
  named_directories =
      subst (λ (target : Option ℕ). AreDirectoriesOf named (changed_at nat_cmp place.directory (put_at name_cmp place.name target) tree.directories)) (ap (option_map (λ (l : Link). l.number)) adds.found)
      (directories_named shown place.directory place.name links tree.directories was.means.directories adds.others)

  -- Files are as they were.
  pub named_files : AreFilesOf read named tree.files
  named_files = record { map = was.means.files.map; each = was.means.files.each }

  keeps : KeepKinds shown inoded
  keeps = kinds_kept shown place.number (Some inode) was_kind

  -- the directory of the name shows as one
  in_directory : kind_of shown place.directory ≡ Some Directory
  in_directory = held_kind shown tree.directories was.means.directories place.directory free.names free.held

  joined : AreJoined new
  joined = joined_added inoded place.directory slot links link adds
      (record {
        under_slot = refl;
        in_directory = keeps place.directory Directory in_directory;
        leads_to = ap (λ b. option_map (λ (i : Inode). i.kind) (cond b (Some inode) (shown.inodes place.number))) (eq-eqb place.number place.number refl) ∙ ap Some is_kind;
      })
      (λ d s. All-weaker (IsLinkJoined shown d s) (IsLinkJoined inoded d s) (joined_still shown inoded keeps d s) (shown.links d s) (was.good.names d s))

  module _ (ds : List (ℕ × Names)) (counts : (n : ℕ) → count_names ds n ≡ count_names tree.directories n + one_for place.number n) where
    others_counted : (n : ℕ) → (place.number == n) ≡ false → count_names ds n ≡ count_names tree.directories n
    others_counted n apart = let all = counts n in let none = none_for_others place.number n apart in omega (arith, all, none)

    one_more : count_names ds place.number ≡ count_names tree.directories place.number + 1
    one_more = let all = counts place.number in let one = one_for_itself place.number in omega (arith, all, one)

module _ (laws : TreeLaws) (read : Read) (sub : Sub) (shown : Shown) (tree : Tree) (place : Place) (links : List Link) (was : MeansGoodTree read sub shown tree) (free : IsFreeName place tree) where
  module _ (fresh : IsNewNumber tree place.number) (none : shown.inodes place.number ≡ None) (blank : (block : ℕ) → shown.blocks place.number block ≡ None) where
    stood_for_nothing : (kind old : FileKind) → kind_of shown place.number ≡ Some old → Some kind ≡ Some old
    stood_for_nothing kind old stood = absurd (none_some old (sym (ap (option_map (λ (i : Inode). i.kind)) none) ∙ stood))

    -- A new file,
    pub file_added : AddsName (record { number = place.number; kind = File; name = place.name }) (shown.links place.directory (slot_of place.name)) links
        → MeansGoodTree read sub (with_links place.directory (slot_of place.name) links (with_inode place.number (Some (record { kind = File; links = 1; size = 0 })) shown)) (with_file place tree)
    file_added adds =
        let inode : Inode = record { kind = File; links = 1; size = 0 } in
        let ds = (with_file place tree).directories in
        let counts = laws.count_name place tree free in
        let dirs : AreDirectoriesOf (with_links place.directory (slot_of place.name) links shown) ds = named_directories read sub shown tree place links File inode was free adds refl (stood_for_nothing File) in
        record {
          means = record {
            locked = was.means.locked;
            root = was.means.root;
            files = files_made read (with_links place.directory (slot_of place.name) links shown) place.number (Some inode) tree.files (named_files read sub shown tree place links File inode was free adds refl (stood_for_nothing File)) [] refl;
            directories = directories_same (with_links place.directory (slot_of place.name) links shown) place.number (Some inode) ds dirs (sym (ap (λ o. is_directory (option_map (λ (i : Inode). i.kind) o)) none));
          };
          good = good_after sub.root shown place.number (Some inode) place.directory (slot_of place.name) links tree.directories ds was.good
              (joined read sub shown tree place links File inode was free adds refl (stood_for_nothing File))
              (keeps read sub shown tree place links File inode was free adds refl (stood_for_nothing File) sub.root Directory was.good.top)
              (others_counted read sub shown tree place links File inode was free adds refl (stood_for_nothing File) ds counts)
              (λ i at file. let more = one_more read sub shown tree place links File inode was free adds refl (stood_for_nothing File) ds counts in let same : i.links ≡ 1 = ap (λ (j : Inode). j.links) (sym (same_Some inode i at)) in let first = fresh.no_name in omega (arith, more, same, first))
              (λ i block at behind. blank block)
              (laws.formed_name place (bare_tree sub.root tree.directories) (formed read sub shown tree was) (free_bare read sub shown tree was place free) fresh.no_directory).rooted;
        }

    -- and a new directory.
    pub directory_added : AddsName (record { number = place.number; kind = Directory; name = place.name }) (shown.links place.directory (slot_of place.name)) links
        → MeansGoodTree read sub (with_links place.directory (slot_of place.name) links (with_inode place.number (Some (record { kind = Directory; links = 1; size = 0 })) shown)) (with_directory place tree)
    directory_added adds =
        let inode : Inode = record { kind = Directory; links = 1; size = 0 } in
        let ds = (with_directory place tree).directories in
        let counts = laws.count_directory place tree free fresh.no_directory in
        let dirs = named_directories read sub shown tree place links Directory inode was free adds refl (stood_for_nothing Directory) in
        record {
          means = record {
            locked = was.means.locked;
            root = was.means.root;
            files = files_same read (with_links place.directory (slot_of place.name) links shown) place.number (Some inode) tree.files (named_files read sub shown tree place links Directory inode was free adds refl (stood_for_nothing Directory)) (sym (ap (option_and_then size_of) none));
            directories = directories_made (with_links place.directory (slot_of place.name) links shown) place.number (Some inode) (with_name place tree).directories dirs refl bare_there;
          };
          good = good_after sub.root shown place.number (Some inode) place.directory (slot_of place.name) links tree.directories ds was.good
              (joined read sub shown tree place links Directory inode was free adds refl (stood_for_nothing Directory))
              (keeps read sub shown tree place links Directory inode was free adds refl (stood_for_nothing Directory) sub.root Directory was.good.top)
              (others_counted read sub shown tree place links Directory inode was free adds refl (stood_for_nothing Directory) ds counts)
              (λ i at file. absurd (true≢false (ap (λ (k : FileKind). is_directory (Some k)) (ap (λ (j : Inode). j.kind) (same_Some inode i at) ∙ file))))
              (λ i block at behind. blank block)
              (laws.formed_directory place (bare_tree sub.root tree.directories) (formed read sub shown tree was) (free_bare read sub shown tree was place free) (record { no_file = refl; no_directory = fresh.no_directory; no_name = fresh.no_name })).rooted;
        }
      where
        -- the name doesn't stand in the directory itself
        elsewhere : (place.directory == place.number) ≡ false
        elsewhere = ne_eqb place.directory place.number (λ same. none_some Directory (sym (ap (option_map (λ (i : Inode). i.kind)) none) ∙ ap (kind_of shown) (sym same) ∙ held_kind shown tree.directories was.means.directories place.directory free.names free.held))

        bare_there : (s : ℕ) → (with_links place.directory (slot_of place.name) links shown).links place.number s ≡ []
        bare_there s =
            ap (λ b. cond b links (shown.links place.number s)) (λ i. elsewhere i && slot_of place.name == s)
            ∙ no_links_in shown place.number was.good.names (ap (option_map (λ (i : Inode). i.kind)) none) s

  module _ (old : Inode) (at_number : shown.inodes place.number ≡ Some old) (is_file : old.kind ≡ File) where
    abbrev more_links : Inode
    more_links = record old { links = old.links + 1 }

    same_kind : (kind : FileKind) → kind_of shown place.number ≡ Some kind → Some old.kind ≡ Some kind
    same_kind kind stood = sym (ap (option_map (λ (i : Inode). i.kind)) at_number) ∙ stood

    -- A further name of a file.
    pub name_added : AddsName (record { number = place.number; kind = File; name = place.name }) (shown.links place.directory (slot_of place.name)) links
        → MeansGoodTree read sub (with_links place.directory (slot_of place.name) links (with_inode place.number (Some more_links) shown)) (with_name place tree)
    name_added adds =
        let ds = (with_name place tree).directories in
        let counts = laws.count_name place tree free in
        record {
          means = record {
            locked = was.means.locked;
            root = was.means.root;
            files = files_same read (with_links place.directory (slot_of place.name) links shown) place.number (Some more_links) tree.files (named_files read sub shown tree place links File more_links was free adds is_file same_kind) (sym (ap (option_and_then size_of) at_number));
            directories = directories_same (with_links place.directory (slot_of place.name) links shown) place.number (Some more_links) ds (named_directories read sub shown tree place links File more_links was free adds is_file same_kind) (sym (ap (λ o. is_directory (option_map (λ (i : Inode). i.kind) o)) at_number));
          };
          good = good_after sub.root shown place.number (Some more_links) place.directory (slot_of place.name) links tree.directories ds was.good
              (joined read sub shown tree place links File more_links was free adds is_file same_kind)
              (keeps read sub shown tree place links File more_links was free adds is_file same_kind sub.root Directory was.good.top)
              (others_counted read sub shown tree place links File more_links was free adds is_file same_kind ds counts)
              (λ i at file.
              let more = one_more read sub shown tree place links File more_links was free adds is_file same_kind ds counts in
              let same : i.links ≡ old.links + 1 = ap (λ (j : Inode). j.links) (sym (same_Some more_links i at)) in
              let before = was.good.links place.number old at_number is_file in
              omega (arith, more, same, before))
              (λ i block at behind. was.good.ends place.number block old at_number (subst (λ size. size ≤ block * block_size) (ap (λ (j : Inode). j.size) (sym (same_Some more_links i at))) behind))
              (laws.formed_name place (bare_tree sub.root tree.directories) (formed read sub shown tree was) (free_bare read sub shown tree was place free) (not_held shown tree.directories was.means.directories place.number file_kind)).rooted;
        }
      where
        file_kind : is_directory (kind_of shown place.number) ≡ false
        file_kind = ap (λ o. is_directory (option_map (λ (i : Inode). i.kind) o)) at_number ∙ ap (λ (k : FileKind). is_directory (Some k)) is_file
