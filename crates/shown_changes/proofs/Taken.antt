-- A name of a file less, and a directory less: what shows then is good, and means the tree without it.
use Rattle.std.proofs.Common.{◌≡◌, ℕ, ◌+◌, ◌-◌, ◌*◌, ◌≤◌, Bool, true, false, cond, Option, Some, None, List, [], refl, sym, ap, ◌∙◌, subst, arith}
use Rattle.std.specs.Prelude.{◌≢◌, ◌==◌, All, is_some, option_and_then, option_map}
use Rattle.std.specs.BTreeMap.{is_at}
use Rattle.std.specs.Ordering.{nat_cmp}
use Rattle.std.proofs.lemmas.Bool.{eq-eqb, eqb-true, ne_eqb, true≢false}
use Rattle.std.proofs.lemmas.Cmp.{nat_cmp_total}
use Rattle.std.proofs.lemmas.Map.Lookups.{exact_unsigned}
use Rattle.std.proofs.lemmas.List.Elements.{All-weaker}
use Rattle.std.proofs.lemmas.Option.{same_Some, none-some as none_some}
use Rattle.plain_forest.specs.Forest.{Names, Tree}
use Rattle.plain_forest.specs.Maps.{changed_at}
use Rattle.vol_digest.specs.Digests.{slot_of}
use Rattle.vol_types.specs.Limits.{block_size}
use Rattle.vol_types.specs.Maps.{put_at, value_at, without}
use Rattle.vol_types.specs.Ranges.{name_cmp}
use Rattle.vol_types.specs.declared.values.FileKind.{FileKind}
use Rattle.vol_types.specs.declared.values.FileKind.TheVariants.{Directory, File}
use Rattle.vol_types.specs.declared.values.Inode.{Inode}
use Rattle.vol_types.specs.declared.values.Link.{Link}
use Rattle.vol_types.specs.declared.values.Sub.{Sub}
use Rattle.forest_ops.specs.Names.{links_of}
use Rattle.forest_ops.specs.Trees.{Place, unlinked, without_directory}
use Rattle.key_meaning.specs.Checks.{IsRooted, count_names}
use Rattle.key_meaning.specs.Forest.{Read, is_directory, size_of, size_of_kind}
use Rattle.key_meaning.specs.TableLaws.{value_at-changed_at}
use Rattle.key_steps.specs.Good.{IsLinkJoined, bare_tree}
use Rattle.key_steps.specs.Shown.{AreDirectoriesOf, AreFilesOf, AreNamesApart, Shown, kind_of, with_inode, with_links}
use Rattle.shown_changes.proofs.Added.{none_for_others, one_for_itself}
use Rattle.shown_changes.proofs.Counts.{counted_once, none_leads, none_within}
use Rattle.shown_changes.proofs.Directories.{directories_gone, directories_named, directories_same}
use Rattle.shown_changes.proofs.Files.{files_gone, files_same}
use Rattle.shown_changes.proofs.Formed.{formed, good_after, held_kind, name_bare, not_held}
use Rattle.shown_changes.proofs.Joined.{AreJoined, KeepKinds, apart_taken, joined_gone, joined_still, joined_taken, kinds_kept}
use Rattle.shown_changes.proofs.Laws.{TreeLaws, one_for}
use Rattle.key_steps.specs.Names.{TakesName}
use Rattle.shown_changes.specs.Changes.{MeansGoodTree}
use Rattle.tree_changes.specs.Trees.{IsNameAt, IsWellFormed}

module _ (laws : TreeLaws) (read : Read) (sub : Sub) (shown : Shown) (tree : Tree) (place : Place) (links : List Link) (was : MeansGoodTree read sub shown tree) (apart : AreNamesApart shown) (there : IsNameAt place tree)
    (takes : TakesName place.name (shown.links place.directory (slot_of place.name)) links) where
  abbrev slot : ℕ
  slot = slot_of place.name

  -- without the name
  abbrev left : Shown
  left = with_links place.directory slot links shown

  abbrev ds : List (ℕ × Names)
  ds = changed_at nat_cmp place.directory (without name_cmp place.name) tree.directories

  -- The directory doesn't have the name,
  left_directories : AreDirectoriesOf left ds
  left_directories =
      subst (λ (target : Option ℕ). AreDirectoriesOf left (changed_at nat_cmp place.directory (put_at name_cmp place.name target) tree.directories)) (ap (option_map (λ (l : Link). l.number)) takes.found)
      (directories_named shown place.directory place.name links tree.directories was.means.directories takes.others)

  -- files are as they were,
  left_files : AreFilesOf read left tree.files
  left_files = record { map = was.means.files.map; each = was.means.files.each }

  -- and names are joined, each under its own.
  left_joined : AreJoined left
  left_joined = joined_taken shown place.directory slot links place.name takes was.good.names

  left_apart : AreNamesApart left
  left_apart = apart_taken shown place.directory slot links place.name takes apart

  -- the name is counted for its number
  counted : 1 ≤ count_names tree.directories place.number
  counted = counted_once laws tree.directories place.directory place.name place.number there.names there.held there.leads

  -- so its number isn't that of the root
  not_root : (place.number == sub.root) ≡ false
  not_root = ne_eqb place.number sub.root (λ same. let one = counted in let none : count_names tree.directories sub.root ≡ 0 = was.good.rooted.root in let here : count_names tree.directories place.number ≡ count_names tree.directories sub.root = ap (count_names tree.directories) same in absurd (omega (arith, one, none, here)))

  -- the root is a directory, whatever becomes of the number's inode
  top_stays : (inode : Option Inode) → kind_of (with_inode place.number inode shown) sub.root ≡ Some Directory
  top_stays inode = ap (λ b. option_map (λ (i : Inode). i.kind) (cond b inode (shown.inodes sub.root))) not_root ∙ was.good.top

  module _ (after : List (ℕ × Names)) (counts : (n : ℕ) → count_names after n + one_for place.number n ≡ count_names tree.directories n) where
    others_counted : (n : ℕ) → (place.number == n) ≡ false → count_names after n ≡ count_names tree.directories n
    others_counted n differs = let all = counts n in let none = none_for_others place.number n differs in omega (arith, all, none)

    one_less : count_names after place.number + 1 ≡ count_names tree.directories place.number
    one_less = let all = counts place.number in let one = one_for_itself place.number in omega (arith, all, one)

  -- the tree after the name went, whether or not its file goes
  unlinked_directories : (unlinked place tree).directories ≡ ds
  unlinked_directories = by (links_of place.number ds == 0)
    where
      by : (b : Bool) → (cond {A = Tree} b (record tree { directories = ds; files = without nat_cmp place.number tree.files }) (record tree { directories = ds })).directories ≡ ds
      by true = refl
      by false = refl

  counts : (n : ℕ) → count_names ds n + one_for place.number n ≡ count_names tree.directories n
  counts n = ap (λ (all : List (ℕ × Names)). count_names all n + one_for place.number n) (sym unlinked_directories) ∙ laws.count_unlinked place tree there n

  module _ (old : Inode) (at_number : shown.inodes place.number ≡ Some old) (is_file : old.kind ≡ File) where
    file_kind : is_directory (kind_of shown place.number) ≡ false
    file_kind = ap (λ o. is_directory (option_map (λ (i : Inode). i.kind) o)) at_number ∙ ap (λ (k : FileKind). is_directory (Some k)) is_file

    -- the links of the file are one more than its names then
    links_left : count_names ds place.number + 1 ≡ old.links
    links_left = one_less ds counts ∙ sym (was.good.links place.number old at_number is_file)

    rooted : IsRooted (bare_tree sub.root ds)
    rooted = by (links_of place.number ds == 0) (laws.formed_unlinked place (bare_tree sub.root tree.directories) (formed read sub shown tree was) (name_bare read sub shown tree was place there) (not_held shown tree.directories was.means.directories place.number file_kind)).rooted
      where
        by : (b : Bool) → IsRooted (cond b (bare_tree sub.root ds) (bare_tree sub.root ds)) → IsRooted (bare_tree sub.root ds)
        by true is = is
        by false is = is

    abbrev fewer_links : Inode
    fewer_links = record old { links = old.links - 1 }

    same_kind : (kind : FileKind) → kind_of shown place.number ≡ Some kind → Some old.kind ≡ Some kind
    same_kind kind stood = sym (ap (option_map (λ (i : Inode). i.kind)) at_number) ∙ stood

    keeps : KeepKinds shown (with_inode place.number (Some fewer_links) shown)
    keeps = kinds_kept shown place.number (Some fewer_links) same_kind

    -- Where the file has other names, its links are one less.
    file_stays : (count_names ds place.number == 0) ≡ false → MeansGoodTree read sub (with_links place.directory slot links (with_inode place.number (Some fewer_links) shown)) (unlinked place tree)
    file_stays some = subst (MeansGoodTree read sub (with_links place.directory slot links (with_inode place.number (Some fewer_links) shown)))
        (sym (ap (λ b. cond {A = Tree} b (record tree { directories = ds; files = without nat_cmp place.number tree.files }) (record tree { directories = ds })) some))
        (record {
          means = record {
            locked = was.means.locked;
            root = was.means.root;
            files = files_same read left place.number (Some fewer_links) tree.files left_files (sym (ap (option_and_then size_of) at_number));
            directories = directories_same left place.number (Some fewer_links) ds left_directories (sym (ap (λ o. is_directory (option_map (λ (i : Inode). i.kind) o)) at_number));
          };
          good = good_after sub.root shown place.number (Some fewer_links) place.directory slot links tree.directories ds was.good
              (joined_taken (with_inode place.number (Some fewer_links) shown) place.directory slot links place.name takes
              (λ d s. All-weaker (IsLinkJoined shown d s) (IsLinkJoined (with_inode place.number (Some fewer_links) shown) d s) (joined_still shown (with_inode place.number (Some fewer_links) shown) keeps d s) (shown.links d s) (was.good.names d s)))
              (top_stays (Some fewer_links))
              (others_counted ds counts)
              (λ i at file. let links = links_left in let same : i.links ≡ old.links - 1 = ap (λ (j : Inode). j.links) (sym (same_Some fewer_links i at)) in omega (arith, links, same))
              (λ i block at behind. was.good.ends place.number block old at_number (subst (λ size. size ≤ block * block_size) (ap (λ (j : Inode). j.size) (sym (same_Some fewer_links i at))) behind))
              rooted;
        })

    -- Where it has none, it goes.
    file_goes : (count_names ds place.number == 0) ≡ true → MeansGoodTree read sub (with_links place.directory slot links (with_inode place.number None shown)) (unlinked place tree)
    file_goes none = subst (MeansGoodTree read sub (with_links place.directory slot links (with_inode place.number None shown)))
        (sym (ap (λ b. cond {A = Tree} b (record tree { directories = ds; files = without nat_cmp place.number tree.files }) (record tree { directories = ds })) none))
        (record {
          means = record {
            locked = was.means.locked;
            root = was.means.root;
            files = files_gone read left place.number None tree.files left_files refl;
            directories = directories_same left place.number None ds left_directories (sym file_kind);
          };
          good = good_after sub.root shown place.number None place.directory slot links tree.directories ds was.good
              (joined_gone left place.number free left_joined)
              (top_stays None)
              (others_counted ds counts)
              (λ i at file. absurd (none_some i at))
              (λ i block at behind. absurd (none_some i at))
              rooted;
        })
      where
        -- no name leads to the file, and it is no directory
        free : (d s : ℕ) → All (λ (link : Link). (d ≢ place.number) × (link.number ≢ place.number)) (left.links d s)
        free d s k e lt = (
          (λ same. true≢false (sym (ap is_directory (ap (kind_of left) (sym same) ∙ (left_joined d s k e lt).in_directory)) ∙ file_kind)),
          none_leads laws left ds left_directories left_joined left_apart place.number (eqb-true (count_names ds place.number) 0 none) d s k e lt,
        )

    -- A name of a file less.
    pub file_unlinked : MeansGoodTree read sub (with_links place.directory slot links (with_inode place.number (cond (old.links == 1) None (Some fewer_links)) shown)) (unlinked place tree)
    file_unlinked = by (old.links == 1) refl
      where
        by : (b : Bool) → (old.links == 1) ≡ b → MeansGoodTree read sub (with_links place.directory slot links (with_inode place.number (cond b None (Some fewer_links)) shown)) (unlinked place tree)
        by true one = file_goes (eq-eqb (count_names ds place.number) 0 (let links = links_left in let is : old.links ≡ 1 = eqb-true old.links 1 one in omega (arith, links, is)))
        by false more = file_stays (ne_eqb (count_names ds place.number) 0 (λ none. true≢false (sym (eq-eqb old.links 1 (let links = links_left in omega (arith, links, none))) ∙ more)))

  -- A directory less.
  pub directory_removed : value_at nat_cmp place.number tree.directories ≡ Some [] → MeansGoodTree read sub (with_links place.directory slot links (with_inode place.number None shown)) (without_directory place tree)
  directory_removed empty = record {
    means = record {
      locked = was.means.locked;
      root = was.means.root;
      files = files_same read left place.number None tree.files left_files (sym no_file);
      directories = directories_gone left place.number None ds left_directories refl;
    };
    good = good_after sub.root shown place.number None place.directory slot links tree.directories (without_directory place tree).directories was.good
        (joined_gone left place.number free left_joined)
        (top_stays None)
        (others_counted (without_directory place tree).directories all_counts)
        (λ i at file. absurd (none_some i at))
        (λ i block at behind. absurd (none_some i at))
        (laws.formed_removed place bare well (name_bare read sub shown tree was place there) empty).rooted;
  }
    where
      bare : Tree
      bare = bare_tree sub.root tree.directories

      well : IsWellFormed bare
      well = formed read sub shown tree was

      kind : kind_of shown place.number ≡ Some Directory
      kind = held_kind shown tree.directories was.means.directories place.number [] empty

      no_file : option_and_then size_of (shown.inodes place.number) ≡ None
      no_file = by (shown.inodes place.number) kind
        where
          by : (o : Option Inode) → option_map (λ (i : Inode). i.kind) o ≡ Some Directory → option_and_then size_of o ≡ None
          by None is = refl
          by (Some inode) is = ap (λ k. size_of_kind k inode.size) (same_Some inode.kind Directory is)

      all_counts : (n : ℕ) → count_names (without_directory place tree).directories n + one_for place.number n ≡ count_names tree.directories n
      all_counts = laws.count_removed place bare well (name_bare read sub shown tree was place there) empty

      -- one name led to the directory, and none does now
      none_counted : count_names ds place.number ≡ 0
      none_counted =
          let once : count_names tree.directories place.number ≡ 1 = was.good.rooted.named place.number (ap (λ (o : Option Names). is_some o) empty) (λ same. true≢false (sym (eq-eqb place.number sub.root same) ∙ not_root)) in
          let less = one_less ds counts in
          omega (arith, once, less)

      still_empty : value_at nat_cmp place.number ds ≡ Some []
      still_empty =
          value_at-changed_at nat_cmp_total exact_unsigned place.directory (without name_cmp place.name) place.number tree.directories was.means.directories.map
          ∙ ap (λ (o : Option Names). cond (is_at (nat_cmp place.directory) place.number) (option_map (without name_cmp place.name) o) o) empty
          ∙ both (is_at (nat_cmp place.directory) place.number)
        where
          both : (b : Bool) → cond {A = Option Names} b (Some []) (Some []) ≡ Some []
          both true = refl
          both false = refl

      free : (d s : ℕ) → All (λ (link : Link). (d ≢ place.number) × (link.number ≢ place.number)) (left.links d s)
      free d s k e lt = (
        none_within left ds left_directories left_joined left_apart place.number still_empty d s k e lt,
        none_leads laws left ds left_directories left_joined left_apart place.number none_counted d s k e lt,
      )
