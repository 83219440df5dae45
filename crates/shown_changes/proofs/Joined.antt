-- Names that join inodes, after a name came or went, and after an inode changed.
use Rattle.std.proofs.Common.{◌≡◌, ℕ, Bool, true, false, cond, Option, Some, None, List, [], ◌∷◌, refl, sym, ap, ◌∙◌, subst, ⊎_elim}
use Rattle.std.specs.Prelude.{◌≢◌, ◌==◌, ◌&&◌, All, option_map}
use Rattle.std.specs.List.{slice_index_or}
use Rattle.std.proofs.lemmas.Bool.{eqb-true}
use Rattle.std.proofs.lemmas.List.Elements.{All-head, All-weaker}
use Rattle.std.proofs.lemmas.Option.{none-some as none_some}
use Rattle.vol_types.specs.declared.values.FileKind.{FileKind}
use Rattle.vol_types.specs.declared.values.FileKind.TheVariants.{Directory}
use Rattle.vol_types.specs.declared.values.Inode.{Inode}
use Rattle.vol_types.specs.declared.values.Link.{Link}
use Rattle.key_meaning.specs.Forest.{link_named}
use Rattle.key_meaning.specs.SoundLaws.{IsIn, all_in}
use Rattle.key_steps.specs.Good.{IsLinkJoined}
use Rattle.key_steps.specs.Shown.{AreNamesApart, Shown, kind_of, with_inode, with_links}
use Rattle.key_steps.specs.Names.{AddsName, TakesName}

-- All names that show are joined.
abbrev pub AreJoined : Shown → Type 0
AreJoined shown = (directory slot : ℕ) → All (IsLinkJoined shown directory slot) (shown.links directory slot)

-- what a number stands for, it stands for afterwards
abbrev pub KeepKinds : Shown → Shown → Type 0
KeepKinds shown new = (n : ℕ) (kind : FileKind) → kind_of shown n ≡ Some kind → kind_of new n ≡ Some kind

-- What the further name and all old ones have, the new ones have.
pub members_added : (P : Link → Type 0) (link : Link) (old new : List Link) → AddsName link old new → P link → All P old → All P new
members_added P link old new adds has all k e lt =
    let other = slice_index_or new k e in
    ⊎_elim (λ (same : other ≡ link). subst P (sym same) has) (λ (is : IsIn other old). all_in P other old all is) (adds.members k e lt)

-- What all old names have, the ones that are left have.
pub members_taken : (P : Link → Type 0) (name : List ℕ) (old new : List Link) → TakesName name old new → All P old → All P new
members_taken P name old new takes all k e lt = all_in P (slice_index_or new k e) old all (takes.members k e lt)

-- A joined name stays so where kinds are kept.
pub joined_still : (shown new : Shown) → KeepKinds shown new → (directory slot : ℕ) (link : Link) → IsLinkJoined shown directory slot link → IsLinkJoined new directory slot link
joined_still shown new keeps directory slot link was = record { under_slot = was.under_slot; in_directory = keeps directory Directory was.in_directory; leads_to = keeps link.number link.kind was.leads_to }

-- Where an inode is put whose number stood for nothing, or for the same, kinds are kept.
pub kinds_kept : (shown : Shown) (number : ℕ) (inode : Option Inode) → ((kind : FileKind) → kind_of shown number ≡ Some kind → option_map (λ (i : Inode). i.kind) inode ≡ Some kind) → KeepKinds shown (with_inode number inode shown)
kinds_kept shown number inode same n kind was = by (number == n) refl
  where
    kind_by : Bool → Option FileKind
    kind_by b = option_map (λ (i : Inode). i.kind) (cond b inode (shown.inodes n))

    by : (b : Bool) → (number == n) ≡ b → kind_by (number == n) ≡ Some kind
    by true here = ap kind_by here ∙ same kind (ap (kind_of shown) (eqb-true number n here) ∙ was)
    by false apart = ap kind_by apart ∙ was

module _ (shown : Shown) (directory slot : ℕ) (links : List Link) where
  abbrev named : Shown
  named = with_links directory slot links shown

  -- what holds of the new names under their slot, and of all others as they were, holds of all
  pub under_slots : (P : ℕ → ℕ → Link → Type 0) → All (P directory slot) links → ((d s : ℕ) → All (P d s) (shown.links d s)) → (d s : ℕ) → All (P d s) (named.links d s)
  under_slots P here all d s = by (directory == d) refl (slot == s) refl
    where
      links_by : Bool → List Link
      links_by b = cond b links (shown.links d s)

      by : (b : Bool) → (directory == d) ≡ b → (c : Bool) → (slot == s) ≡ c → All (P d s) (named.links d s)
      by true one true two =
          subst (λ b. All (P d s) (links_by b)) (sym (λ i. one i && two i))
          (subst (λ a. All (P a s) links) (eqb-true directory d one) (subst (λ a. All (P directory a) links) (eqb-true slot s two) here))
      by true one false two = subst (λ b. All (P d s) (links_by b)) (sym (λ i. one i && two i)) (all d s)
      by false one c two = subst (λ b. All (P d s) (links_by b)) (sym (λ i. one i && slot == s)) (all d s)

  turned : (d s : ℕ) (link : Link) → IsLinkJoined shown d s link → IsLinkJoined named d s link
  turned d s link was = record { under_slot = was.under_slot; in_directory = was.in_directory; leads_to = was.leads_to }

  all_turned : AreJoined shown → (d s : ℕ) → All (IsLinkJoined named d s) (shown.links d s)
  all_turned joined d s = All-weaker (IsLinkJoined shown d s) (IsLinkJoined named d s) (turned d s) (shown.links d s) (joined d s)

  -- Names are joined with a further one that is.
  pub joined_added : (link : Link) → AddsName link (shown.links directory slot) links → IsLinkJoined shown directory slot link → AreJoined shown → AreJoined named
  joined_added link adds is joined =
      under_slots (IsLinkJoined named) (members_added (IsLinkJoined named directory slot) link (shown.links directory slot) links adds (turned directory slot link is) (all_turned joined directory slot)) (all_turned joined)

  -- Names are joined without one.
  pub joined_taken : (name : List ℕ) → TakesName name (shown.links directory slot) links → AreJoined shown → AreJoined named
  joined_taken name takes joined = under_slots (IsLinkJoined named) (members_taken (IsLinkJoined named directory slot) name (shown.links directory slot) links takes (all_turned joined directory slot)) (all_turned joined)

  -- Names differ without one, too.
  pub apart_taken : (name : List ℕ) → TakesName name (shown.links directory slot) links → AreNamesApart shown → AreNamesApart named
  apart_taken name takes apart = record { each = λ d s. by d s (directory == d) refl (slot == s) refl }
    where
      FoundIn : List Link → Link → Type 0
      FoundIn ls link = link_named link.name ls ≡ Some link

      here : All (FoundIn links) links
      here k e lt = let link = slice_index_or links k e in takes.others.others link.name (takes.gone k e lt) ∙ members_taken (FoundIn (shown.links directory slot)) name (shown.links directory slot) links takes (apart.each directory slot) k e lt

      links_by : ℕ → ℕ → Bool → List Link
      links_by d s b = cond b links (shown.links d s)

      by : (d s : ℕ) (b : Bool) → (directory == d) ≡ b → (c : Bool) → (slot == s) ≡ c → All (FoundIn (named.links d s)) (named.links d s)
      by d s true one true two = subst (λ b. All (FoundIn (links_by d s b)) (links_by d s b)) (sym (λ i. one i && two i)) here
      by d s true one false two = subst (λ b. All (FoundIn (links_by d s b)) (links_by d s b)) (sym (λ i. one i && two i)) (apart.each d s)
      by d s false one c two = subst (λ b. All (FoundIn (links_by d s b)) (links_by d s b)) (sym (λ i. one i && slot == s)) (apart.each d s)

-- Names stay joined where an inode goes that no name leads to and that holds none.
pub joined_gone : (shown : Shown) (number : ℕ) → ((d s : ℕ) → All (λ (link : Link). (d ≢ number) × (link.number ≢ number)) (shown.links d s)) → AreJoined shown → AreJoined (with_inode number None shown)
joined_gone shown number free joined d s k e lt =
    let link = slice_index_or (shown.links d s) k e in
    let was = joined d s k e lt in
    let apart = free d s k e lt in
    record { under_slot = was.under_slot; in_directory = other d apart.0 ∙ was.in_directory; leads_to = other link.number apart.1 ∙ was.leads_to }
  where
    other : (n : ℕ) → n ≢ number → kind_of (with_inode number None shown) n ≡ kind_of shown n
    other n apart = by (number == n) refl
      where
        kind_by : Bool → Option FileKind
        kind_by b = option_map (λ (i : Inode). i.kind) (cond b None (shown.inodes n))

        by : (b : Bool) → (number == n) ≡ b → kind_by (number == n) ≡ kind_of shown n
        by true here = absurd (apart (sym (eqb-true number n here)))
        by false differs = ap kind_by differs

-- Where a number stands for nothing, no names show in it as a directory.
pub no_links_in : (shown : Shown) (number : ℕ) → AreJoined shown → kind_of shown number ≡ None → (slot : ℕ) → shown.links number slot ≡ []
no_links_in shown number joined none slot = by (shown.links number slot) (joined number slot)
  where
    by : (links : List Link) → All (IsLinkJoined shown number slot) links → links ≡ []
    by [] all = refl
    by (link ∷ links) all = absurd (none_some Directory (sym none ∙ (All-head (IsLinkJoined shown number slot) link links all).in_directory))
