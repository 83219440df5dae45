-- What a volume means: for each subvolume a file tree, as if nothing were shared.
use Rattle.std.specs.Prelude.{ℕ, Bool, false, List, [], ◌∷◌, replicate, codes, refl}
use Rattle.std.specs.Coded.{Coded, code_by, coded×, coded_ℕ, coded_bool, coded_list}

-- the names of a directory, rising by their bytes, each with the number of the inode that it leads to
abbrev pub Names : Type 0
Names = List (List ℕ × ℕ)

-- a file tree: the number of its root, and by number the bytes of each file and the names of each directory;
-- `locked` where it may only be read
pub record Tree : Type 0 where
  pub locked : Bool
  pub root : ℕ
  pub files : List (ℕ × List ℕ)
  pub directories : List (ℕ × Names)

-- for each subvolume's name its tree, for each client the next n of its inode numbers, and how many snapshot ids
-- are left
pub record Forest : Type 0 where
  pub subvolumes : List (List ℕ × Tree)
  pub next : List ℕ
  pub ids_left : ℕ

-- how a tree is coded, which the model of a subvolume asks for
abbrev pub tree_code : Coded Tree
tree_code =
    code_by (Bool × (ℕ × (List (ℕ × List ℕ) × List (ℕ × Names)))) (coded× coded_bool (coded× coded_ℕ (coded× (coded_list (coded× coded_ℕ (coded_list coded_ℕ))) (coded_list (coded× coded_ℕ (coded_list (coded× (coded_list coded_ℕ) coded_ℕ)))))))
    (λ t. (t.locked, (t.root, (t.files, t.directories)))) (λ p. record { locked = p.0; root = p.1.0; files = p.1.1.0; directories = p.1.1.1 }) (λ _. refl)

-- how a forest is coded
abbrev pub forest_code : Coded Forest
forest_code =
    code_by (List (List ℕ × Tree) × (List ℕ × ℕ)) (coded× (coded_list (coded× (coded_list coded_ℕ) tree_code)) (coded× (coded_list coded_ℕ) coded_ℕ))
    (λ f. (f.subvolumes, (f.next, f.ids_left))) (λ p. record { subvolumes = p.0; next = p.1.0; ids_left = p.1.1 }) (λ _. refl)

-- the number of the root directory of `main` in a fresh forest, the first of client 0
abbrev pub first_root : ℕ
first_root = 1

-- a fresh forest: `main` with an empty root, whose number client 0 has used, and all snapshot ids but the one of `main`
abbrev pub fresh : Forest
fresh = record {
  subvolumes = (codes "main", record { locked = false; root = first_root; files = []; directories = (first_root, []) ∷ [] }) ∷ [];
  next = 2 ∷ replicate 15 1;
  ids_left = 4294967294;
}
