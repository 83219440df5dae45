-- What is told of the inode at a path is what the forest tells.
use Rattle.std.proofs.Common.{◌≡◌, ℕ, Bool, true, false, cond, Option, Some, None, List, [], ◌∷◌, refl, sym, ap, ◌∙◌, subst, length}
use Rattle.std.specs.Prelude.{not, Result, Ok, Err, IsSome, is_ok, is_some, option_map, option_and_then, unwrap_or}
use Rattle.std.specs.Option.{ok_or}
use Rattle.std.specs.Ordering.{nat_cmp, is_eq}
use Rattle.std.proofs.lemmas.Bool.{false≢true}
use Rattle.std.proofs.lemmas.List.FromFn.{length-map-range_with_len}
use Rattle.forest_ops.specs.Refusals.{◌>>=◌, refused_if, result_map}
use Rattle.forest_ops.specs.Steps.{fsynced, next_of, reply_or, status, status_of}
use Rattle.forest_ops.specs.Walking.{Inode as InodeHere, inode_at}
use Rattle.forest_ops.specs.declared.operation.Cause.{Cause}
use Rattle.forest_ops.specs.declared.operation.Cause.TheVariants.{NotDir, NotFound}
use Rattle.forest_ops.specs.declared.operation.Reply.TheVariants.{File as FileIs, Refused, Synced}
use Rattle.fs_plan.specs.Statuses.{status_by, status_in, sync_reply, told_of}
use Rattle.key_meaning.specs.Checks.{AreLinksCounted, AreNamesJoined, IsLiveLeaf, IsNameJoined, IsSubvolume}
use Rattle.key_meaning.specs.Forest.{Read, content_of, forest_in, inode_in, is_directory, kind_in, link_named, links_in, names_in, size_of}
use Rattle.key_meaning.specs.Forest as keys_mean
use Rattle.key_meaning.specs.ForestLaws.{directory_at, file_at}
use Rattle.key_meaning.specs.SoundLaws.{all_in, found_in}
use Rattle.path_plan.specs.Looking.{inode_at_spot, lead_to, reached_along}
use Rattle.path_plan.specs.PathLaws.{inode_along_is, spot_is_reached}
use Rattle.path_plan.specs.declared.walking.Spot.{Spot}
use Rattle.plain_forest.specs.Forest.{Tree}
use Rattle.plain_forest.specs.declared.path.Path.{Path}
use Rattle.vol_digest.specs.Digests.{slot_of}
use Rattle.vol_types.specs.KeyMaps.{KeyMap}
use Rattle.vol_types.specs.Maps.{value_at}
use Rattle.vol_types.specs.Ranges.{name_cmp}
use Rattle.vol_types.specs.declared.values.FileKind.{FileKind}
use Rattle.vol_types.specs.declared.values.FileKind.TheVariants.{Directory, File}
use Rattle.vol_types.specs.declared.values.Inode.{Inode}
use Rattle.vol_types.specs.declared.values.Link.{Link}
use Rattle.vol_types.specs.declared.values.Sub.{Sub}

-- what has a kind is an inode
has_kind : (inode : Option Inode) (kind : FileKind) → option_map (λ (i : Inode). i.kind) inode ≡ Some kind → IsSome inode
has_kind None kind is = ap is_some is
has_kind (Some i) kind is = refl

-- ---- what names lead to

module _ (keys : KeyMap) (id : ℕ) (joined : AreNamesJoined keys) (live : IsLiveLeaf keys id) where
  abbrev number_or : ℕ → Result ℕ Cause → ℕ
  number_or other (Ok number) = number
  number_or other (Err cause) = other

  refused : {X : Type 0} {cause : Cause} {to : ℕ} → Err cause ≡ Ok to → X
  refused is = absurd (false≢true (ap (λ (r : Result ℕ Cause). is_ok r) is))

  -- a name leads to an inode
  link_shows : (directory : ℕ) (name : List ℕ) (link : Link) → link_named name (links_in keys id directory (slot_of name)) ≡ Some link → IsSome (inode_in keys id link.number)
  link_shows directory name link is =
      let links = links_in keys id directory (slot_of name) in
      let member = (found_in (λ (l : Link). is_eq (name_cmp name l.name)) link links is).0 in
      has_kind (inode_in keys id link.number) link.kind (all_in (IsNameJoined keys id directory (slot_of name)) link links (joined.each id directory (slot_of name) live) member).leads_to

  -- and so do several from an inode
  leads_to_inode : (names : List (List ℕ)) (number to : ℕ) → IsSome (inode_in keys id number) → lead_to keys id names number ≡ Ok to → IsSome (inode_in keys id to)
  leads_to_inode [] number to shows is = subst (λ n. IsSome (inode_in keys id n)) (ap (number_or number) is) shows
  leads_to_inode (name ∷ names) number to shows is = by (is_directory (kind_in keys id number)) (link_named name (links_in keys id number (slot_of name))) refl is (λ next. leads_to_inode names next to)
    where
      by : (directory : Bool) (found : Option Link) → link_named name (links_in keys id number (slot_of name)) ≡ found
          → ((refused_if (not directory) NotDir >>= (λ _. ok_or (option_map (λ (l : Link). l.number) found) NotFound)) >>= (λ next. lead_to keys id names next)) ≡ Ok to
          → ((next : ℕ) → IsSome (inode_in keys id next) → lead_to keys id names next ≡ Ok to → IsSome (inode_in keys id to)) → IsSome (inode_in keys id to)
      by false found at came later = refused came
      by true None at came later = refused came
      by true (Some link) at came later = later link.number (link_shows number name link at) came

-- ---- what the forest tells

module _ (keys : KeyMap) (read : Read) (sub : Sub) (number : ℕ) (live : IsLiveLeaf keys sub.id) (counted : AreLinksCounted keys) where
  abbrev tree : Tree
  tree = keys_mean.tree_of keys read sub

  abbrev here : InodeHere
  here = record { tree = tree; number = number }

  -- the bytes of a file are as many as its size says
  length_is : (size : ℕ) → length (content_of keys read sub.id number size) ≡ size
  length_is size = length-map-range_with_len (keys_mean.byte_in keys read sub.id number) 0 size

  bytes_are : (inode : Inode) → inode.kind ≡ File → inode_in keys sub.id number ≡ Some inode → length (unwrap_or (value_at nat_cmp number tree.files) []) ≡ inode.size
  bytes_are inode file is =
      ap (λ (o : Option (List ℕ)). length (unwrap_or o [])) (file_at keys sub.id read number ∙ ap (λ o. option_map (content_of keys read sub.id number) (option_and_then size_of o)) is ∙ ap (λ k. option_map (content_of keys read sub.id number) (keys_mean.size_of_kind k inode.size)) file)
      ∙ length_is inode.size

  by_kind : (kind : FileKind) (inode : Inode) → inode.kind ≡ kind → inode_in keys sub.id number ≡ Some inode
      → told_of keys sub.id number inode ≡ status_of here (cond (is_directory (Some kind)) (Some (names_in keys sub.id number)) None)
  by_kind Directory inode kind is = ap (λ k. status_by k keys sub.id number inode) kind
  by_kind File inode kind is =
      ap (λ k. status_by k keys sub.id number inode) kind
      ∙ (λ i. FileIs number (sym (bytes_are inode kind is) i) (counted.each sub.id number inode live is kind i))

  -- Of an inode that shows in the subvolume the keys tell what the forest does.
  pub told_alike : (inode : Inode) → inode_in keys sub.id number ≡ Some inode → told_of keys sub.id number inode ≡ status_of here (value_at nat_cmp number tree.directories)
  told_alike inode is =
      by_kind inode.kind inode refl is
      ∙ ap (λ (o : Option FileKind). status_of here (cond (is_directory o) (Some (names_in keys sub.id number)) None)) (sym (ap (option_map (λ (i : Inode). i.kind)) is))
      ∙ ap (status_of here) (sym (directory_at keys sub.id number))

  shown_alike : (inode : Option Inode) → inode_in keys sub.id number ≡ inode → IsSome inode → status_in keys sub.id number inode ≡ status_of here (value_at nat_cmp number tree.directories)
  shown_alike None is shows = absurd (false≢true shows)
  shown_alike (Some inode) is shows = told_alike inode is

  pub status_alike : IsSome (inode_in keys sub.id number) → status_in keys sub.id number (inode_in keys sub.id number) ≡ status_of here (value_at nat_cmp number tree.directories)
  status_alike shows = shown_alike (inode_in keys sub.id number) refl shows

-- ---- what stands at a path

module _ (keys : KeyMap) (read : Read) (path : Path) (names : List (List ℕ)) (all : names ≡ path.names) where
  -- what the forest finds there
  found_at : (reached : Result Spot Cause) → reached_along keys path names ≡ reached → inode_at path (forest_in keys read) ≡ result_map (inode_at_spot keys read) reached
  found_at reached is = inode_along_is keys read path ∙ ap (result_map (inode_at_spot keys read)) (ap (reached_along keys path) (sym all) ∙ is)

  -- A status is refused where nothing stands there,
  pub status_refused : (cause : Cause) → reached_along keys path names ≡ Err cause → Refused cause ≡ reply_or (status path (forest_in keys read))
  status_refused cause is = sym (ap (λ (r : Result InodeHere Cause). reply_or (r >>= (λ inode. Ok (next_of (status_of inode (value_at nat_cmp inode.number inode.tree.directories)) (forest_in keys read))))) (found_at (Err cause) is))

  -- and else tells of what does.
  pub status_given : AreNamesJoined keys → AreLinksCounted keys → (spot : Spot) → IsSubvolume keys spot.sub → reached_along keys path names ≡ Ok spot
      → status_in keys spot.sub.id spot.number (inode_in keys spot.sub.id spot.number) ≡ reply_or (status path (forest_in keys read))
  status_given joined counted spot within is =
      status_alike keys read spot.sub spot.number within.leaf counted
      (leads_to_inode keys spot.sub.id joined within.leaf names spot.sub.root spot.number (has_kind (inode_in keys spot.sub.id spot.sub.root) Directory within.root) (spot_is_reached keys path names spot is).leads)
      ∙ sym (ap (λ (r : Result InodeHere Cause). reply_or (r >>= (λ inode. Ok (next_of (status_of inode (value_at nat_cmp inode.number inode.tree.directories)) (forest_in keys read))))) (found_at (Ok spot) is))

  -- A sync is answered as the forest does.
  pub sync_alike : (reached : Result Spot Cause) → reached ≡ reached_along keys path names → sync_reply reached ≡ reply_or (fsynced path (forest_in keys read))
  sync_alike reached is = by reached ∙ sym (ap (λ (r : Result InodeHere Cause). reply_or (r >>= (λ inode. Ok (next_of (Synced 0) (forest_in keys read))))) (found_at reached (sym is)))
    where
      by : (r : Result Spot Cause) → sync_reply r ≡ reply_or (result_map (inode_at_spot keys read) r >>= (λ inode. Ok (next_of (Synced 0) (forest_in keys read))))
      by (Ok spot) = refl
      by (Err cause) = refl
