-- Names that lead from one number to another by the directories alone: they are the walks of a tree, two of them make one, and in
-- another tree in which one name of one directory is elsewhere they lead on or pass that name.
use Rattle.std.proofs.Common.{◌≡◌, ◌⊎◌, inl, inr, ℕ, Bool, true, false, Option, Some, None, List, [], ◌∷◌, ◌++◌, refl, sym, ap, ◌∙◌, subst}
use Rattle.std.specs.Prelude.{Result, Ok, Err, is_ok}
use Rattle.std.specs.Option.{ok_or}
use Rattle.std.specs.BTreeMap.{is_at}
use Rattle.std.specs.Ordering.{nat_cmp}
use Rattle.std.proofs.lemmas.Bool.{and_parts, false≢true}
use Rattle.std.proofs.lemmas.Option.{same_Some}
use Rattle.plain_forest.specs.Forest.{Names, Tree}
use Rattle.plain_forest.specs.Steps.{◌>>=◌, names_in, step, walk}
use Rattle.plain_forest.specs.declared.operation.Cause.{Cause}
use Rattle.plain_forest.specs.declared.operation.Cause.TheVariants.{NotDir, NotFound}
use Rattle.vol_types.specs.Maps.{value_at}
use Rattle.vol_types.specs.Ranges.{name_cmp}
use Rattle.tree_changes.proofs.Leading.{is_name, leads, leads_parts, named, same_directory, same_words}

-- The names lead from a number to another.
abbrev pub Lead : List (ℕ × Names) → List (List ℕ) → ℕ → ℕ → Type 0
Lead directories [] from to = from ≡ to
Lead directories (name ∷ names) from to = (next : ℕ) × (leads directories from name ≡ Some next) × Lead directories names next to

-- the value of a result, or another
abbrev value_or : {A C : Type 0} → A → Result A C → A
value_or other (Ok x) = x
value_or other (Err cause) = other

-- Results that are there are of one value,
pub same_ok : {A C : Type 0} (x y : A) → ◌≡◌ {A = Result A C} (Ok x) (Ok y) → x ≡ y
same_ok x y is = ap (value_or x) is

-- and so is one that comes of what may be absent.
pub ok_found : {A C : Type 0} (found : Option A) (cause : C) (x : A) → ok_or found cause ≡ Ok x → found ≡ Some x
ok_found (Some y) cause x is = ap Some (same_ok y x is)
ok_found None cause x is = absurd (false≢true (ap is_ok is))

-- What comes of two things after one another comes of the first one's value.
after_first : {A B : Type 0} (rest : A → Result B Cause) (first : Result A Cause) (y : B) → (first >>= rest) ≡ Ok y → (x : A) × (first ≡ Ok x) × (rest x ≡ Ok y)
after_first rest (Ok x) y is = (x, refl, is)
after_first rest (Err cause) y is = absurd (false≢true (ap is_ok is))

-- A walk is names that lead,
pub lead_of : (tree : Tree) (names : List (List ℕ)) (from to : ℕ) → walk tree names from ≡ Ok to → Lead tree.directories names from to
lead_of tree [] from to is = same_ok from to is
lead_of tree (name ∷ names) from to is =
    let next = after_first (λ (next : ℕ). walk tree names next) (step tree from name) to is in
    let held = after_first (λ (here : Names). ok_or (value_at name_cmp name here) NotFound) (names_in tree from) next.0 next.1 in
    let found : value_at nat_cmp from tree.directories ≡ Some held.0 = ok_found (value_at nat_cmp from tree.directories) NotDir held.0 held.1 in
    let leads_on : value_at name_cmp name held.0 ≡ Some next.0 = ok_found (value_at name_cmp name held.0) NotFound next.0 held.2 in
    (next.0, ap (λ o. named o name) found ∙ leads_on, lead_of tree names next.0 to next.2)

-- and the other way round.
pub walk_of : (tree : Tree) (names : List (List ℕ)) (from to : ℕ) → Lead tree.directories names from to → walk tree names from ≡ Ok to
walk_of tree [] from to way = ap Ok way
walk_of tree (name ∷ names) from to way =
    let held = leads_parts tree.directories from name way.0 way.1 in
    ap (λ (o : Option Names). (ok_or o NotDir >>= (λ (here : Names). ok_or (value_at name_cmp name here) NotFound)) >>= (λ (next : ℕ). walk tree names next)) held.1
    ∙ ap (λ (o : Option ℕ). ok_or o NotFound >>= (λ (next : ℕ). walk tree names next)) held.2
    ∙ walk_of tree names way.0 to way.2

-- Names lead on from where others lead to.
pub lead_then : (directories : List (ℕ × Names)) (names more : List (List ℕ)) (from middle to : ℕ) → Lead directories names from middle → Lead directories more middle to → Lead directories (names ++ more) from to
lead_then directories [] more from middle to way further = subst (λ (n : ℕ). Lead directories more n to) (sym way) further
lead_then directories (name ∷ names) more from middle to way further = (way.0, way.1, lead_then directories names more way.0 middle to way.2 further)

-- What holds of each number that has a name, and of the one to which names lead, holds of the one from which they lead.
pub leads_in : (directories : List (ℕ × Names)) (names : List (List ℕ)) (from to : ℕ) → Lead directories names from to → (P : ℕ → Type 0) → P to → ((number : ℕ) (name : List ℕ) (end : ℕ) → leads directories number name ≡ Some end → P number) → P from
leads_in directories [] from to way P holds each = subst P (sym way) holds
leads_in directories (name ∷ names) from to way P holds each = each from name way.0 way.1

module _ (directories others : List (ℕ × Names)) where
  -- Names lead as they led, where each name does.
  pub lead_kept : ((number : ℕ) (name : List ℕ) (end : ℕ) → leads directories number name ≡ Some end → leads others number name ≡ Some end) → (names : List (List ℕ)) (from to : ℕ) → Lead directories names from to → Lead others names from to
  lead_kept keeps [] from to way = way
  lead_kept keeps (name ∷ names) from to way = (way.0, keeps from name way.0 way.1, lead_kept keeps names way.0 to way.2)

-- The names pass a name of a directory, which leads to a number: those before it lead to its directory, and those behind it lead on
-- among other directories.
pub record Pass (directories others : List (ℕ × Names)) (directory : ℕ) (name : List ℕ) (number : ℕ) (names : List (List ℕ)) (from to : ℕ) : Type 0 where
  pub before : List (List ℕ)
  pub behind : List (List ℕ)
  pub comes : Lead directories before from directory
  pub goes : Lead others behind number to
  pub parts : names ≡ before ++ name ∷ behind

module _ (directories others : List (ℕ × Names)) (directory : ℕ) (name : List ℕ) (number : ℕ) (is : leads directories directory name ≡ Some number)
    (keeps : (n : ℕ) (x : List ℕ) (end : ℕ) → leads directories n x ≡ Some end → is_name directory name n x ≡ false → leads others n x ≡ Some end) where
  -- Names lead among other directories as they led, where each name but one does, or they pass that name.
  pub leads_or_passes : (names : List (List ℕ)) (from to : ℕ) → Lead directories names from to → Lead others names from to ⊎ Pass directories others directory name number names from to
  leads_or_passes [] from to way = inl way
  leads_or_passes (x ∷ names) from to way = by (leads_or_passes names way.0 to way.2) (is_name directory name from x) refl
    where
      by : Lead others names way.0 to ⊎ Pass directories others directory name number names way.0 to → (b : Bool) → is_name directory name from x ≡ b
          → Lead others (x ∷ names) from to ⊎ Pass directories others directory name number (x ∷ names) from to
      by (inl goes) false apart = inl (way.0, keeps from x way.0 way.1 apart, goes)
      by (inl goes) true here =
          let at = and_parts (is_at (nat_cmp directory) from) (is_at (name_cmp name) x) here in
          let there : directory ≡ from = same_directory directory from at.0 in
          let words : name ≡ x = same_words name x at.1 in
          let ends : way.0 ≡ number = same_Some way.0 number (sym way.1 ∙ (λ i. leads directories (sym there i) (sym words i)) ∙ is) in
          inr (record { before = []; behind = names; comes = sym there; goes = subst (λ (n : ℕ). Lead others names n to) ends goes; parts = ap (λ (w : List ℕ). w ∷ names) (sym words) })
      by (inr passes) b at =
          inr (record { before = x ∷ passes.before; behind = passes.behind; comes = (way.0, way.1, passes.comes); goes = passes.goes; parts = ap (λ (ns : List (List ℕ)). x ∷ ns) passes.parts })
