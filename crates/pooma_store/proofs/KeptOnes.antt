-- Which patches are kept as one number.
use Rattle.std.proofs.Common.{refl, sym, ap, ◌∙◌, ⊎_elim, subst, arith, inl, inr}
use Rattle.std.proofs.lemmas.Bool.{cases_eq}
use Rattle.std.proofs.lemmas.List.{length-map, get_or-map, get_or_default, get_or-set_other}
use Rattle.std.proofs.lemmas.Grind.{get_or-set_at}
use Rattle.std.proofs.lemmas.Option.{slice_get_within, get_or_from_slice_get}
use Rattle.std.specs.Arc.{arc_value}
use Rattle.std.specs.Prelude.{◌≡◌, ◌≢◌, ◌⊎◌, ◌↔◌, ℕ, ◌<◌, false, List, length, slice_index_or, slice_set, IsTrue}
use Rattle.std.specs.declared.alloc.Global.{Global}
use Rattle.std.specs.declared.sync.Arc.{Arc}
use Rattle.pooma_compress.specs.Kept.{AreEqual}
use Rattle.pooma_field.specs.Numbered.{Numbered}
use Rattle.pooma_patch.specs.Patched.{Patched}
use Rattle.pooma_store.specs.Stored.{contents_of, ones_of, AreKept, IsKept}

-- a patch has the same numbers as it came with, and is kept as it may be
pub record Stays (came now : Patched) : Type 0 where
  pub content : now.content ≡ came.content
  pub one : IsKept came now.one

pub stays_more : (came between now : Patched) → Stays came between → now.content ≡ between.content → IsKept between now.one → Stays came now
stays_more came between now first content (inl same) = record { content = content ∙ first.content; one = subst (IsKept came) (sym same) first.one }
stays_more came between now first content (inr iff) = record {
  content = content ∙ first.content;
  one = inr (subst (λ (a : Numbered). IsTrue now.one ↔ AreEqual a.numbers) first.content iff);
}

-- each of some patches stays
abbrev pub AllStay : List (Arc Patched Global) → List (Arc Patched Global) → Type 0
AllStay came now = (j : ℕ) (d : Arc Patched Global) → Stays (arc_value (slice_index_or came j d)) (arc_value (slice_index_or now j d))

pub all_stay_first : (patches : List (Arc Patched Global)) → AllStay patches patches
all_stay_first patches j d = record { content = refl; one = inl refl }

-- and where another is put in place of one of them that has the same numbers and is kept as it may be
pub all_stay_more : (came patches : List (Arc Patched Global)) (k : ℕ) (old new : Arc Patched Global) → AllStay came patches → k < length patches → (arc_value new).content ≡ (arc_value (slice_index_or patches k old)).content → IsKept (arc_value (slice_index_or patches k old)) (arc_value new).one → AllStay came (slice_set patches k new)
all_stay_more came patches k old new stay below content one j d = ⊎_elim here there (cases_eq j k)
  where
    Is : Arc Patched Global → Type 0
    Is arc = Stays (arc_value (slice_index_or came j d)) (arc_value arc)

    here : j ≡ k → Is (slice_index_or (slice_set patches k new) j d)
    here same =
        let at : slice_index_or patches k old ≡ slice_index_or patches j d =
        get_or_default patches k old d below ∙ ap (λ (i : ℕ). slice_index_or patches i d) (sym same) in
        subst Is (sym (get_or-set_at patches k j new d same below))
        (stays_more (arc_value (slice_index_or came j d)) (arc_value (slice_index_or patches j d)) (arc_value new) (stay j d)
        (content ∙ ap (λ (arc : Arc Patched Global). (arc_value arc).content) at)
        (subst (λ (arc : Arc Patched Global). IsKept (arc_value arc) (arc_value new).one) at one))

    there : j ≢ k → Is (slice_index_or (slice_set patches k new) j d)
    there other = subst Is (sym (get_or-set_other patches k j new d other)) (stay j d)

-- patches that stay are kept as they may be
pub kept_of_stay : (came now : List (Arc Patched Global)) → contents_of now ≡ contents_of came → AllStay came now → AreKept came (ones_of now)
kept_of_stay came now same stay =
    let size : length now ≡ length came =
    sym (length-map now (λ (a : Arc Patched Global). (arc_value a).content)) ∙ ap length same ∙ length-map came (λ (a : Arc Patched Global). (arc_value a).content) in (
      length-map now (λ (a : Arc Patched Global). (arc_value a).one) ∙ size,
      λ k arc at.
          subst (λ (a : Arc Patched Global). IsKept (arc_value a) (slice_index_or (ones_of now) k false)) (get_or_from_slice_get came k arc arc at)
          (subst (IsKept (arc_value (slice_index_or came k arc)))
          (sym (get_or-map (λ (a : Arc Patched Global). (arc_value a).one) now k arc false (omega (arith, size, slice_get_within came k arc at))))
          (stay k arc).one),
    )
