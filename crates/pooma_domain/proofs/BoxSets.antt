-- Operations on lists of axes are those on sets of cells.
use Rattle.std.proofs.Common.{refl, sym, ap, ◌∙◌, subst, arith}
use mathlib.Core.Path.{ap₂}
use Rattle.std.proofs.lemmas.Bool.Decides.{same_from_decides, Decides-int_eq, Decides-and, Decides-like}
use Rattle.std.specs.Bool.{Decides}
use Rattle.std.specs.Cmp.Lexicographic.{pointwise, pointwise_decides}
use Rattle.std.proofs.lemmas.Int.{ints, clamps}
use Rattle.std.specs.Prelude.{◌≡◌, ◌↔◌, ℕ, zero, suc, ℤ, pos, ◌+ℤ◌, ◌-ℤ◌, ◌≤ℤ◌, ◌<ℤ◌, IfSome, Some, All, List, [], ◌∷◌, length, map, slice_get, slice_set, Bool, IsTrue}
use Rattle.std.proofs.lemmas.List.Elements.{All-head, All-tail}
use Rattle.std.specs.Int.{int_max, int_min}
use Rattle.pooma_domain.specs.Cells.{Interval, interval, interval_eq, IsIn, IsOrdered}
use Rattle.pooma_domain.specs.Operations.{common, common_axes, moved, shifted, reach, reaches, grown, grown_axis, IsMeeting, IsShifted, IsGrown, IsPart}

abbrev pub Holds : Interval → ℤ → Type 0
Holds axis x = (axis.first ≤ℤ x) × (x ≤ℤ axis.last)

common_both : (a b : Interval) (x : ℤ) → Holds (common a b) x → Holds a x × Holds b x
common_both a b x h =
    ((omega (arith, ints, clamps), omega (arith, ints, clamps)), (omega (arith, ints, clamps), omega (arith, ints, clamps)))

both_common : (a b : Interval) (x : ℤ) → Holds a x → Holds b x → Holds (common a b) x
both_common a b x h k = (omega (arith, ints, clamps), omega (arith, ints, clamps))

by_corners : (a b : List Interval) → map (λ axis. axis.first) a ≡ map (λ axis. axis.first) b → map (λ axis. axis.last) a ≡ map (λ axis. axis.last) b → a ≡ b
by_corners [] [] e f = refl
by_corners [] (y ∷ ys) e f = cc
by_corners (x ∷ xs) [] e f = cc
by_corners (x ∷ xs) (y ∷ ys) e f =
    let firsts : map (λ axis. axis.first) xs ≡ map (λ axis. axis.first) ys = cc in
    let lasts : map (λ axis. axis.last) xs ≡ map (λ axis. axis.last) ys = cc in
    let first : x.first ≡ y.first = cc in
    let last : x.last ≡ y.last = cc in
    ap₂ (λ v vs. v ∷ vs) (ap₂ interval first last) (by_corners xs ys firsts lasts)

-- two boxes with one least cell are the same where their greatest cells are
pub same_corners : (a b : List Interval) (la lb ga gb : List ℤ) → la ≡ map (λ axis. axis.first) a → lb ≡ map (λ axis. axis.first) b → ga ≡ map (λ axis. axis.last) a → gb ≡ map (λ axis. axis.last) b → la ≡ lb → (ga ≡ gb) ↔ (a ≡ b)
same_corners a b la lb ga gb e f g h same =
    (λ t. by_corners a b (sym e ∙ same ∙ f) (sym g ∙ t ∙ h), λ i. g ∙ ap (λ axes. map (λ axis. axis.last) axes) i ∙ sym h)

Decides-interval_eq : (x y : Interval) → Decides (interval_eq x y) (x ≡ y)
Decides-interval_eq x y =
    Decides-like _ (λ h. ap₂ interval h.0 h.1) (λ e. (ap (λ (a : Interval). a.first) e, ap (λ (a : Interval). a.last) e))
    (Decides-and _ _ (Decides-int_eq x.first y.first) (Decides-int_eq x.last y.last))

-- a test that tells whether two boxes are the same one answers what the test axis by axis does
pub same_axes : (r : Bool) (a b : List Interval) → (IsTrue r ↔ (a ≡ b)) → r ≡ pointwise interval_eq a b
same_axes r a b h = same_from_decides r (pointwise interval_eq a b) h (pointwise_decides Decides-interval_eq a b)

meeting_in_both : (a b : List Interval) (c : List ℤ) → length a ≡ length b → IsIn (common_axes a b) c → IsIn a c × IsIn b c
meeting_in_both [] [] c e h = (h, h)
meeting_in_both [] (y ∷ ys) c e h = cc
meeting_in_both (x ∷ xs) [] c e h = cc
meeting_in_both (x ∷ xs) (y ∷ ys) [] e h = absurd h
meeting_in_both (x ∷ xs) (y ∷ ys) (p ∷ ps) e h =
    let here : Holds x p × Holds y p = common_both x y p (h.0, h.1) in
    let there : IsIn xs ps × IsIn ys ps = meeting_in_both xs ys ps (omega arith) h.2 in
    ((here.0.0, here.0.1, there.0), (here.1.0, here.1.1, there.1))

in_both_meeting : (a b : List Interval) (c : List ℤ) → length a ≡ length b → IsIn a c → IsIn b c → IsIn (common_axes a b) c
in_both_meeting [] [] c e h k = h
in_both_meeting [] (y ∷ ys) c e h k = cc
in_both_meeting (x ∷ xs) [] c e h k = cc
in_both_meeting (x ∷ xs) (y ∷ ys) [] e h k = absurd h
in_both_meeting (x ∷ xs) (y ∷ ys) (p ∷ ps) e h k =
    let here : Holds (common x y) p = both_common x y p (h.0, h.1) (k.0, k.1) in
    (here.0, here.1, in_both_meeting xs ys ps (omega arith) h.2 k.2)

pub common_axes_meet : (a b : List Interval) → length a ≡ length b → IsMeeting a b (common_axes a b)
common_axes_meet a b e c = (meeting_in_both a b c e, λ h. in_both_meeting a b c e h.0 h.1)

shifted_from : (a : List Interval) (by d : List ℤ) → length a ≡ length by → IsIn a d → IsIn (shifted a by) (moved d by)
shifted_from [] [] [] e h = tt
shifted_from [] [] (p ∷ ps) e h = absurd h
shifted_from [] (b ∷ bs) d e h = cc
shifted_from (x ∷ xs) [] d e h = cc
shifted_from (x ∷ xs) (b ∷ bs) [] e h = absurd h
shifted_from (x ∷ xs) (b ∷ bs) (p ∷ ps) e h =
    (omega (arith, ints, h.0), omega (arith, ints, h.1), shifted_from xs bs ps (omega arith) h.2)

shifted_back : (a : List Interval) (by c : List ℤ) → length a ≡ length by → IsIn (shifted a by) c → (d : List ℤ) × IsIn a d × (c ≡ moved d by)
shifted_back [] [] [] e h = ([], tt, refl)
shifted_back [] [] (p ∷ ps) e h = absurd h
shifted_back [] (b ∷ bs) c e h = cc
shifted_back (x ∷ xs) [] c e h = cc
shifted_back (x ∷ xs) (b ∷ bs) [] e h = absurd h
shifted_back (x ∷ xs) (b ∷ bs) (p ∷ ps) e h =
    let there : (d : List ℤ) × IsIn xs d × (ps ≡ moved d bs) = shifted_back xs bs ps (omega arith) h.2 in
    let here : p ≡ (p -ℤ b) +ℤ b = omega (arith, ints) in
    ((p -ℤ b) ∷ there.0, (omega (arith, ints, h.0), omega (arith, ints, h.1), there.1), cc)

pub shifted_is : (a : List Interval) (by : List ℤ) → length a ≡ length by → IsShifted a by (shifted a by)
shifted_is a by e c =
    (shifted_back a by c e, λ h. subst (IsIn (shifted a by)) (sym h.2) (shifted_from a by h.0 e h.1))

grown_from : (a m : List Interval) (d t : List ℤ) → length a ≡ length m → IsIn a d → IsIn m t → IsIn (grown a m) (moved d t)
grown_from [] [] [] [] e h k = tt
grown_from [] [] [] (t ∷ ts) e h k = absurd k
grown_from [] [] (p ∷ ps) t e h k = absurd h
grown_from [] (y ∷ ys) d t e h k = cc
grown_from (x ∷ xs) [] d t e h k = cc
grown_from (x ∷ xs) (y ∷ ys) [] t e h k = absurd h
grown_from (x ∷ xs) (y ∷ ys) (p ∷ ps) [] e h k = absurd k
grown_from (x ∷ xs) (y ∷ ys) (p ∷ ps) (t ∷ ts) e h k =
    (omega (arith, ints, h.0, k.0), omega (arith, ints, h.1, k.1), grown_from xs ys ps ts (omega arith) h.2 k.2)

-- the number of an axis that is nearest to a number
nearest : Interval → ℤ → ℤ
nearest axis x = int_max axis.first (int_min axis.last x)

nearest_is : (axis moves : Interval) (x : ℤ) → axis.first ≤ℤ axis.last → moves.first ≤ℤ pos 0 → pos 0 ≤ℤ moves.last → Holds (grown_axis axis moves) x → Holds axis (nearest axis x) × Holds moves (x -ℤ nearest axis x)
unfolding nearest
nearest_is axis moves x some low high h =
    ((omega (arith, ints, clamps), omega (arith, ints, clamps)), (omega (arith, ints, clamps), omega (arith, ints, clamps)))

grown_back : (a : List Interval) (low high c : List ℤ) → length a ≡ length low → length a ≡ length high → All IsOrdered a → All (λ l. pos 0 ≤ℤ l) low → All (λ h. pos 0 ≤ℤ h) high → IsIn (grown a (reaches low high)) c → (d : List ℤ) × (m : List ℤ) × IsIn a d × IsIn (reaches low high) m × (c ≡ moved d m)
grown_back [] [] [] [] e f o ls hs h = ([], [], tt, tt, refl)
grown_back [] [] [] (p ∷ ps) e f o ls hs h = absurd h
grown_back [] [] (y ∷ ys) c e f o ls hs h = cc
grown_back [] (y ∷ ys) high c e f o ls hs h = cc
grown_back (x ∷ xs) [] high c e f o ls hs h = cc
grown_back (x ∷ xs) (l ∷ low) [] c e f o ls hs h = cc
grown_back (x ∷ xs) (l ∷ low) (u ∷ high) [] e f o ls hs h = absurd h
grown_back (x ∷ xs) (l ∷ low) (u ∷ high) (p ∷ ps) e f o ls hs h =
    let there : (d : List ℤ) × (m : List ℤ) × IsIn xs d × IsIn (reaches low high) m × (ps ≡ moved d m) =
    grown_back xs low high ps (omega arith) (omega arith) (All-tail IsOrdered x xs o) (All-tail (λ v. pos 0 ≤ℤ v) l low ls) (All-tail (λ v. pos 0 ≤ℤ v) u high hs) h.2 in
    let ordered : IsOrdered x = All-head IsOrdered x xs o in
    let down : pos 0 ≤ℤ l = All-head (λ v. pos 0 ≤ℤ v) l low ls in
    let up : pos 0 ≤ℤ u = All-head (λ v. pos 0 ≤ℤ v) u high hs in
    let near : Holds x (nearest x p) × Holds (reach l u) (p -ℤ nearest x p) =
    nearest_is x (reach l u) p ordered (omega (arith, ints)) up (h.0, h.1) in
    let here : p ≡ nearest x p +ℤ (p -ℤ nearest x p) = omega (arith, ints) in
    (nearest x p ∷ there.0, (p -ℤ nearest x p) ∷ there.1, (near.0.0, near.0.1, there.2), (near.1.0, near.1.1, there.3), cc)

length-reaches : (low high : List ℤ) → length low ≡ length high → length (reaches low high) ≡ length low
length-reaches [] high e = refl
length-reaches (l ∷ low) [] e = cc
length-reaches (l ∷ low) (u ∷ high) e = ap suc (length-reaches low high (omega arith))

pub grown_is : (a : List Interval) (low high : List ℤ) → length a ≡ length low → length a ≡ length high → All IsOrdered a → All (λ l. pos 0 ≤ℤ l) low → All (λ h. pos 0 ≤ℤ h) high → IsGrown a (reaches low high) (grown a (reaches low high))
grown_is a low high e f o ls hs c = (
  grown_back a low high c e f o ls hs,
  λ h. subst (IsIn (grown a (reaches low high))) (sym h.4) (grown_from a (reaches low high) h.0 h.1 (e ∙ sym (length-reaches low high (sym e ∙ f))) h.2 h.3),
)

-- an axis that is narrowed by a test on its numbers makes the part of the box that passes the test
part_from : (axes : List Interval) (n : ℕ) (a b : Interval) (Passes : ℤ → Type 0) → slice_get axes n ≡ Some a → ((x : ℤ) → Holds b x ↔ (Holds a x × Passes x)) → (c : List ℤ) → IsIn (slice_set axes n b) c → IsIn axes c × IfSome (slice_get c n) Passes
part_from [] n a b P e f c h = cc
part_from (x ∷ xs) zero a b P e f [] h = absurd h
part_from (x ∷ xs) zero a b P e f (p ∷ ps) h =
    let same : x ≡ a = cc in
    let here : Holds a p × P p = (f p).0 (h.0, h.1) in
    let on_x : Holds x p = subst (λ (i : Interval). Holds i p) (sym same) here.0 in
    ((on_x.0, on_x.1, h.2), here.1)
part_from (x ∷ xs) (suc n) a b P e f [] h = absurd h
part_from (x ∷ xs) (suc n) a b P e f (p ∷ ps) h =
    let there : IsIn xs ps × IfSome (slice_get ps n) P = part_from xs n a b P e f ps h.2 in
    ((h.0, h.1, there.0), there.1)

part_to : (axes : List Interval) (n : ℕ) (a b : Interval) (Passes : ℤ → Type 0) → slice_get axes n ≡ Some a → ((x : ℤ) → Holds b x ↔ (Holds a x × Passes x)) → (c : List ℤ) → IsIn axes c → IfSome (slice_get c n) Passes → IsIn (slice_set axes n b) c
part_to [] n a b P e f c h t = cc
part_to (x ∷ xs) zero a b P e f [] h t = absurd h
part_to (x ∷ xs) zero a b P e f (p ∷ ps) h t =
    let same : x ≡ a = cc in
    let on_a : Holds a p = subst (λ (i : Interval). Holds i p) same (h.0, h.1) in
    let here : Holds b p = (f p).1 (on_a, t) in
    (here.0, here.1, h.2)
part_to (x ∷ xs) (suc n) a b P e f [] h t = absurd h
part_to (x ∷ xs) (suc n) a b P e f (p ∷ ps) h t = (h.0, h.1, part_to xs n a b P e f ps h.2 t)

pub part_is : (axes : List Interval) (n : ℕ) (a b : Interval) (Passes : ℤ → Type 0) → slice_get axes n ≡ Some a → ((x : ℤ) → Holds b x ↔ (Holds a x × Passes x)) → IsPart axes n Passes (slice_set axes n b)
part_is axes n a b P e f c = (part_from axes n a b P e f c, λ h. part_to axes n a b P e f c h.0 h.1)

pub lower_part : (axes : List Interval) (n : ℕ) (a : Interval) (at' : ℤ) → slice_get axes n ≡ Some a → at' ≤ℤ a.last → IsPart axes n (λ x. x <ℤ at') (slice_set axes n (interval a.first (at' -ℤ pos 1)))
lower_part axes n a at' e h =
    part_is axes n a (interval a.first (at' -ℤ pos 1)) (λ x. x <ℤ at') e
    (λ x. (λ k. ((k.0, omega (arith, ints, k.1)), omega (arith, ints, k.1)), λ k. (k.0.0, omega (arith, ints, k.1))))

pub upper_part : (axes : List Interval) (n : ℕ) (a : Interval) (at' : ℤ) → slice_get axes n ≡ Some a → a.first <ℤ at' → IsPart axes n (λ x. at' ≤ℤ x) (slice_set axes n (interval at' a.last))
upper_part axes n a at' e h =
    part_is axes n a (interval at' a.last) (λ x. at' ≤ℤ x) e
    (λ x. (λ k. ((omega (arith, ints, k.0), k.1), k.0), λ k. (k.1, k.0.1)))
