-- Names as they are kept in a map, and as the list that contracts see.
use Rattle.std.proofs.Common.{◌≡◌, ℕ, cond, List, [], ◌∷◌, ◌++◌, Some, refl, ap, ◌∙◌}
use Rattle.std.proofs.lemmas.List.{map-append}
use Rattle.std.specs.Prelude.{map}
use Rattle.std.specs.Map.{lookup}
use Rattle.std.specs.Str.{bytes_eq}

-- an entry with its key as a text
abbrev pub named : {K X : Type 0} → (K → List ℕ) → K × X → List ℕ × X
named text entry = (text entry.0, entry.1)

-- what is found by the text of a key is found by the key's text
pub lookup-by_text : {K X : Type 0} (entries : List (K × X)) (text : K → List ℕ) (name : List ℕ)
    → lookup (λ k. bytes_eq name (text k)) entries ≡ lookup (bytes_eq name) (map (named text) entries)
lookup-by_text [] text name = refl
lookup-by_text (e ∷ entries) text name = ap (cond (bytes_eq name (text e.0)) (Some e.1)) (lookup-by_text entries text name)

-- an entry more is a name more
pub named_more : {K X : Type 0} (old new : List (K × X)) (text : K → List ℕ) (key : K) (what : X) (seen : List (List ℕ × X))
    → map (named text) old ≡ seen → new ≡ old ++ (key, what) ∷ [] → map (named text) new ≡ seen ++ (text key, what) ∷ []
named_more old new text key what seen is more =
    ap (map (named text)) more ∙ (map-append (named text) old ((key, what) ∷ []) ∙ ap (λ names. names ++ (text key, what) ∷ []) is)
