-- Images agree on a base where they agree at its places.
use Rattle.std.proofs.Common.{◌≡◌, ℕ, ◌+◌, ◌%◌, inl, inr, List, length, map, get_or, refl, sym, subst, ⊎_elim}
use Rattle.std.specs.Prelude.{All, Contains}
use Rattle.std.proofs.lemmas.List.Elements.{All-contains, Contains-get_or}
use Rattle.dev_model.specs.Crashes.{SameBut}
use Rattle.dev_model.specs.Disk.{Image}
use Rattle.image_view.specs.Bases.{AgreeAt, AgreeInBucket, AgreeOnBase, AgreeOnNode}
use Rattle.image_view.specs.Found.{Found}
use Rattle.image_view.specs.Trees.{nodes_of}
use Rattle.journal_ring.specs.Entries.{AgreeFrom}
use Rattle.journal_ring.specs.Parts.{area_of}
use Rattle.journal_ring.specs.declared.found.FoundEntry.{FoundEntry}
use Rattle.btree_laws.specs.BasePlaces.{IsElsewhere, IsOfBase, entry, node, session, super}

-- What holds of each member holds of all.
all_of : {A : Type 0} (P : A → Type 0) (xs : List A) → ((x : A) → Contains xs x → P x) → All P xs
all_of P xs so i d less = so (get_or xs i d) (Contains-get_or xs i d less)

-- Images that agree at the places of a base agree on it.
pub agree_on : (f : Found) (one other : Image) → map (λ blocks. length blocks) one ≡ map (λ blocks. length blocks) other → ((dev block : ℕ) → IsOfBase f dev block → AgreeAt one other dev block) → AgreeOnBase f one other
agree_on f one other lengths at = record {
  lengths = lengths;
  first_copies = λ dev. at dev 0 (super (inl refl));
  second_copies = λ dev. at dev 8 (super (inr refl));
  even_sessions = λ dev less. at dev 4 (session (less, inl refl));
  odd_sessions = λ dev less. at dev 5 (session (less, inr refl));
  entries = all_of (λ (e : FoundEntry). AgreeFrom f.layout (area_of one) (area_of other) e.number e.end) f.needed (λ e there dev number less from end. at dev (16 + number % f.layout.journal) (entry e there (number, less, from, end, refl)));
  nodes = all_of (AgreeOnNode one other) (nodes_of f.trees.nodes) (λ pointer there. all_of (AgreeInBucket one other) pointer.places (λ place own n less. at place.dev (place.block + n) (node pointer there (place, n, own, less, refl, refl))));
}

-- And those that agree on it agree at its places.
pub agree_at : (f : Found) (one other : Image) → AgreeOnBase f one other → (dev block : ℕ) → IsOfBase f dev block → AgreeAt one other dev block
agree_at f one other agree dev block (super is) =
    ⊎_elim (λ first. subst (AgreeAt one other dev) (sym first) (agree.first_copies dev)) (λ second. subst (AgreeAt one other dev) (sym second) (agree.second_copies dev)) is
agree_at f one other agree dev block (session is) =
    ⊎_elim (λ even. subst (AgreeAt one other dev) (sym even) (agree.even_sessions dev is.0)) (λ odd. subst (AgreeAt one other dev) (sym odd) (agree.odd_sessions dev is.0)) is.1
agree_at f one other agree dev block (entry found there is) =
    subst (AgreeAt one other dev) (sym is.4) (All-contains (λ (e : FoundEntry). AgreeFrom f.layout (area_of one) (area_of other) e.number e.end) f.needed found agree.entries there dev is.0 is.1 is.2 is.3)
agree_at f one other agree dev block (node pointer there is) =
    let own : AgreeInBucket one other is.0 = All-contains (AgreeInBucket one other) pointer.places is.0 (All-contains (AgreeOnNode one other) (nodes_of f.trees.nodes) pointer agree.nodes there) is.2 in
    subst (λ (d : ℕ). AgreeAt one other d block) (sym is.4) (subst (AgreeAt one other is.0.dev) (sym is.5) (own is.1 is.3))

-- Images that differ elsewhere alone agree on it.
pub agree_but : (f : Found) (one other : Image) → map (λ blocks. length blocks) one ≡ map (λ blocks. length blocks) other → SameBut (IsElsewhere f) one other → AgreeOnBase f one other
agree_but f one other lengths same = agree_on f one other lengths (λ dev block of. same dev block (λ elsewhere. elsewhere of))
