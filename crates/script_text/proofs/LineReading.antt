-- The fault of a path from its parts, and what a line says from its words.
use Rattle.std.proofs.Common.{◌≡◌, ◌≢◌, ◌⊎◌, ℕ, true, List, [], ◌∷◌, length, Option, Some, None, refl, sym, subst, ap, ◌∙◌, inl, inr}
use Rattle.std.specs.Prelude.{◌==◌, find, MatchOption}
use Rattle.forest_ops.specs.declared.operation.Op.{Op}
use Rattle.script_text.specs.Arguments.{Kind, fault_of}
use Rattle.script_text.specs.Arguments.Kind.{PathWord, NameWord, NumberWord, LengthWord, BytesWord, LockedWord}
use Rattle.script_text.specs.Faults.{IsFaultBehind, IsFirstFault}
use Rattle.script_text.specs.Grammar.{HasBadWords, HasFault, HasNoVerb, HasVerb, IsFor, Says}
use Rattle.script_text.specs.Lines.{IsCut, words_in, words_of}
use Rattle.script_text.specs.Readings.{IsFaultOfNames, IsFaultOfText, IsFaultOfWord, IsFaultOfWords, SaysBehind}
use Rattle.script_text.specs.Verbs.{forms, is_supported, verb_word}
use Rattle.script_text.specs.Words.{IsPathCut, SaysName, SaysNames}
use Rattle.script_text.specs.declared.reading.LineFault.{LineFault}
use Rattle.script_text.specs.declared.reading.LineFault.TheVariants.{BadArgs, BadPath}
use Rattle.script_text.specs.declared.reading.ReadFault.{ReadFault}
use Rattle.script_text.specs.declared.reading.ReadFault.TheVariants.{Faulty, OutOfMemory}
use Rattle.script_text.specs.declared.verb.Verb.{Verb}
use Rattle.script_text.proofs.OneLine.{one_client}
use Rattle.script_text.proofs.OneWord.{one_path_cut}
use Rattle.script_text.proofs.TextCuts.{cut_words}

module _ (word sub names : List ℕ) (cut : IsPathCut word sub names) where
  -- a path whose subvolume's name is none
  pub sub_fault : (fault : ReadFault) → IsFaultOfWord NameWord sub fault → IsFaultOfWord PathWord word fault
  sub_fault (Faulty fault) is =
      (λ path says. is.0 path.sub (subst (λ text. SaysName text path.sub) (one_path_cut word says.sub says.names sub names says.cut cut).0 says.sub_said), is.1)
  sub_fault OutOfMemory is = tt

  -- a path whose names are none
  pub path_fault : (fault : ReadFault) → IsFaultOfNames names fault → IsFaultOfWord PathWord word fault
  path_fault (Faulty fault) is =
      (λ path says. is.0 path.names (subst (λ text. SaysNames text path.names) (one_path_cut word says.sub says.names sub names says.cut cut).1 says.names_said), is.1)
  path_fault OutOfMemory is = tt

-- which faults the words behind a verb may have
either_fault : (kind : Kind) → (fault_of kind ≡ BadArgs) ⊎ (fault_of kind ≡ BadPath)
either_fault PathWord = inr refl
either_fault NameWord = inr refl
either_fault NumberWord = inl refl
either_fault LengthWord = inl refl
either_fault BytesWord = inl refl
either_fault LockedWord = inl refl

first_is_either : (kinds : List Kind) (words : List (List ℕ)) (fault : LineFault) → IsFirstFault kinds words fault → (fault ≡ BadArgs) ⊎ (fault ≡ BadPath)
first_is_either [] words fault is = absurd is
first_is_either (kind ∷ kinds) [] fault is = absurd is
first_is_either (kind ∷ kinds) (word ∷ words) fault (inl nothing) = by (either_fault kind)
  where
    by : (fault_of kind ≡ BadArgs) ⊎ (fault_of kind ≡ BadPath) → (fault ≡ BadArgs) ⊎ (fault ≡ BadPath)
    by (inl args) = inl (nothing.1 ∙ args)
    by (inr path) = inr (nothing.1 ∙ path)
first_is_either (kind ∷ kinds) (word ∷ words) fault (inr later) = first_is_either kinds words fault later.1

is_either : (forms : List (List Kind)) (words : List (List ℕ)) (fault : LineFault) → IsFaultBehind forms words fault → (fault ≡ BadArgs) ⊎ (fault ≡ BadPath)
is_either forms words fault = by (find (λ kinds. length kinds == length words) forms)
  where
    by : (form : Option (List Kind)) → MatchOption form (fault ≡ BadArgs) (λ kinds. IsFirstFault kinds words fault) → (fault ≡ BadArgs) ⊎ (fault ≡ BadPath)
    by None is = inl is
    by (Some kinds) is = first_is_either kinds words fault is

module _ (line : List ℕ) (client : ℕ) (text word : List ℕ) (words : Option (List ℕ)) (is_for : IsFor (words_of line) client (words_of text)) (cut : IsCut 32 text word words) where
  -- a word that is no verb
  pub no_verb : ((verb : Verb) → is_supported verb ≡ true → word ≢ verb_word verb) → HasNoVerb line
  no_verb none = record {
    client = client;
    rest = words_of text;
    for_client = is_for;
    verbless = λ verb others has.
        let same : word ∷ words_in words ≡ verb_word verb ∷ others = sym (cut_words text word words cut) ∙ (one_client (words_of line) client client (words_of text) (verb_word verb ∷ others) is_for has.for_client).1 in
        let first : word ≡ verb_word verb = cc in
        none verb has.supported first;
  }

  -- a word that is a verb
  pub a_verb : (verb : Verb) → word ≡ verb_word verb → is_supported verb ≡ true → HasVerb line client verb (words_in words)
  a_verb verb is supported = record {
    for_client = subst (IsFor (words_of line) client) (cut_words text word words cut ∙ ap (λ w. w ∷ words_in words) is) is_for;
    supported = supported;
  }

-- the fault of the words behind a verb is the line's
pub words_fault : (line : List ℕ) (client : ℕ) (verb : Verb) (words : List (List ℕ)) → HasVerb line client verb words → (fault : ReadFault) → IsFaultOfWords (forms verb) words fault
    → IsFaultOfText line fault
words_fault line client verb words has OutOfMemory is = tt
words_fault line client verb words has (Faulty fault) is = by (is_either (forms verb) words fault is)
  where
    bad : HasBadWords line fault
    bad = record { client = client; verb = verb; words = words; has_verb = has; bad = is }

    by : (fault ≡ BadArgs) ⊎ (fault ≡ BadPath) → HasFault line fault
    by (inl args) = subst (HasFault line) (sym args) (subst (HasBadWords line) args bad)
    by (inr path) = subst (HasFault line) (sym path) (subst (HasBadWords line) path bad)

-- what the words behind a verb say is what the line says
pub words_say : (line : List ℕ) (client : ℕ) (verb : Verb) (words : List (List ℕ)) → HasVerb line client verb words → (said : Option Op) → SaysBehind verb words said → Says line client said
words_say line client verb words has said says = record {
  words = words;
  has_verb = subst (λ v. HasVerb line client v words) says.0 has;
  arguments = says.1;
}
