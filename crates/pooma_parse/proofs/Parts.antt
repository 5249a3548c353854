-- The parts of a line that are no expressions are read as the grammar says.
use Rattle.std.proofs.Common.{◌≡◌, ◌⊎◌, ℕ, ℤ, pos, false, List, [], ◌∷◌, ◌++◌, Option, Some, None, refl, sym, ap, ◌∙◌, subst, inl, inr, codes, bytes_eq}
use Rattle.pooma_text.specs.declared.span.Span.{Span}
use Rattle.pooma_text.specs.declared.token.TokenKind.TheVariants.{Word, Sign}
use Rattle.pooma_parse.specs.declared.form.RawCutting.{RawCutting}
use Rattle.pooma_parse.specs.declared.form.RawCutting.TheVariants.{Blocks, Cuts}
use Rattle.pooma_parse.specs.declared.form.RawSub.{RawSub}
use Rattle.pooma_parse.specs.declared.form.RawSub.TheVariants.{At, Range}
use Rattle.pooma_parse.specs.declared.form.Updater4.{Updater4}
use Rattle.pooma_parse.specs.declared.form.Updater4.TheVariants.{Constant, Periodic, Reflect, Antireflect, Extrapolate}
use Rattle.pooma_parse.specs.Languages.{INT, MOST_NUM, MOST_SMALL, SMALL, followed, listed, nothing, parens, sign, signed, word, ◌⨾◌}
use Rattle.pooma_parse.specs.Lists.{BOX, BRACKETS, CUTLIST, CUTTING, LAYERS, RANGE, SMALLS, STRIDE, SUB, UPDATER, VIEW}
use Rattle.pooma_parse.specs.Reader.{begins, begins_sign, begins_word, expect_word, pure, read_box, read_brackets, read_cut_list, read_cutting, read_int, read_layers, read_listed, read_parens, read_range, read_signed, read_small, read_smalls, read_stride, read_sub, read_updater, read_view, ◌>>=◌, ◌>>◌}
use Rattle.pooma_parse.specs.Tokens.{Lexeme, word_token}
use Rattle.pooma_parse.proofs.Atoms.{begins_is, begins_of, name_exact, number_exact, number_no_sign, sign_exact, signed_cases, signed_exact, token_begins, word_exact}
use Rattle.pooma_parse.proofs.Commas.{Before, BeforeComma, NoSign, listed_exact, parens_exact}
use Rattle.pooma_parse.proofs.Exact.{Any, Begins, Exact, and_then_some, cut, done, first_of_two, if_cases, if_false, if_true, nothing_begins, nothing_ends, some_same, step, then_begins}

pub int_exact : Exact Any INT read_int
int_exact = signed_exact MOST_SMALL

pub small_exact : Exact Any SMALL read_small
small_exact = number_exact MOST_SMALL

-- another sign comes next than this
pub other_sign : (text other : List ℕ) → bytes_eq text other ≡ false → {tokens rest : List Lexeme} → Begins (sign text) tokens rest → NoSign other tokens
unfolding begins
other_sign text other apart b = let at = token_begins b in ap (begins_sign other) at.1 ∙ apart

-- a number with or without a minus sign begins with no other sign
pub signed_no_sign : (other : List ℕ) → bytes_eq (codes "-") other ≡ false → {most : ℕ} {tokens rest : List Lexeme} {v : ℤ} → Begins (signed most v) tokens rest → NoSign other tokens
signed_no_sign other apart b = elim (signed_cases b) [
  | inl plain ↦ number_no_sign other plain
  | inr minus ↦ other_sign (codes "-") other apart (cut minus.2).one
]

pub range_exact : Exact Any RANGE read_range
unfolding read_range
range_exact = record {
  sound = λ tokens rest v e.
      let first = step int_exact e in
      let colon = step (sign_exact (codes ":")) first.more in
      let last = step int_exact colon.more in
      done RANGE last.more (then_begins first.spelled (then_begins colon.spelled last.spelled));
  complete = λ tokens rest v b any.
      let first = cut b in
      let colon = cut first.other in
      and_then_some _ (int_exact.complete _ _ v.0 first.one tt)
      (and_then_some _ ((sign_exact (codes ":")).complete _ _ tt colon.one tt)
      (and_then_some _ (int_exact.complete _ _ v.1 colon.other tt) refl));
}

-- what is separated by commas, where anything may follow an entry
pub any_comma : BeforeComma Any
any_comma span rest = tt

pub closes_list : Before (codes ")") (λ rest. NoSign (codes ",") rest × Any rest)
unfolding begins
closes_list span rest = (refl, tt)

pub box_exact : Exact Any BOX read_box
box_exact = parens_exact (listed_exact range_exact any_comma) closes_list

pub smalls_exact : Exact Any SMALLS read_smalls
smalls_exact = parens_exact (listed_exact small_exact any_comma) closes_list

-- ---- cuts and guards

pub ints_exact : Exact (λ rest. NoSign (codes ",") rest × Any rest) (listed INT) (read_listed read_int)
ints_exact = listed_exact int_exact any_comma

cut_list_of : (cuts : List ℤ) {tokens rest : List Lexeme} → Begins (parens (listed INT cuts)) tokens rest → Begins (CUTLIST cuts) tokens rest
cut_list_of [] b = absurd ((cut (cut b).other).one.spelled)
cut_list_of (x ∷ cuts) b = b

cut_list_read : (cuts : List ℤ) (tokens rest : List Lexeme) → Begins (CUTLIST cuts) tokens rest → read_cut_list tokens ≡ Some (cuts, rest)
unfolding read_cut_list
cut_list_read [] tokens rest b =
    let opened = cut {B = nothing ⨾ sign (codes ")")} b in
    let inside = cut opened.other in
    let closed : Begins (sign (codes ")")) opened.mid rest = subst (λ s. Begins (sign (codes ")")) s rest) (sym (nothing_ends inside.one)) inside.other in
    let at = begins_of closed in
    and_then_some _ ((sign_exact (codes "(")).complete _ _ tt opened.one tt) (if_true _ at.0 (ap (λ r. Some ([], r)) at.1))
cut_list_read (x ∷ cuts) tokens rest b =
    let opened = cut {B = listed INT (x ∷ cuts) ⨾ sign (codes ")")} b in
    let inside = cut opened.other in
    let first = cut {A = INT x} {B = followed INT cuts} inside.one in
    let at = token_begins inside.other in
    and_then_some _ ((sign_exact (codes "(")).complete _ _ tt opened.one tt)
    (if_false _ (signed_no_sign (codes ")") refl first.one)
    (and_then_some _ (ints_exact.complete _ _ (x ∷ cuts) inside.one (subst (λ s. NoSign (codes ",") s × Any s) (sym at.1) (closes_list at.0 rest)))
    (and_then_some _ ((sign_exact (codes ")")).complete _ _ tt inside.other tt) refl)))

pub cut_list_exact : Exact Any CUTLIST read_cut_list
unfolding read_cut_list
cut_list_exact = record {
  sound = λ tokens rest v e.
      let opened = step (sign_exact (codes "(")) e in
      elim (if_cases (begins_sign (codes ")") opened.mid) opened.more) [
        | inl so ↦ done CUTLIST so.1 (then_begins opened.spelled (then_begins (nothing_begins opened.mid) (begins_is Sign (codes ")") opened.mid so.0)))
        | inr other ↦
            let inside = step ints_exact other.1 in
            let closed = step (sign_exact (codes ")")) inside.more in
            done CUTLIST closed.more (cut_list_of inside.value (then_begins opened.spelled (then_begins inside.spelled closed.spelled)))
      ];
  complete = λ tokens rest v b any. cut_list_read v tokens rest b;
}

pub cuts_exact : Exact Any (λ lists. parens (listed CUTLIST lists)) (read_parens (read_listed read_cut_list))
cuts_exact = parens_exact (listed_exact cut_list_exact any_comma) closes_list

-- another word comes next than this
pub other_word : (text other : List ℕ) → bytes_eq text other ≡ false → {tokens rest : List Lexeme} → Begins (word text) tokens rest → begins_word other tokens ≡ false
unfolding begins
other_word text other apart b = let at = token_begins b in ap (begins_word other) at.1 ∙ apart

cutting_read : (cutting : RawCutting) (tokens rest : List Lexeme) → Begins (CUTTING cutting) tokens rest → read_cutting tokens ≡ Some (cutting, rest)
unfolding read_cutting
cutting_read (Blocks list) tokens rest b =
    let first = cut {A = word (codes "blocks")} {B = SMALLS list} b in
    let at = begins_of first.one in
    if_true _ at.0 (and_then_some _ (ap read_smalls at.1 ∙ smalls_exact.complete _ _ list first.other tt) refl)
cutting_read (Cuts lists) tokens rest b =
    let first = cut {A = word (codes "cuts")} {B = parens (listed CUTLIST lists)} b in
    if_false _ (other_word (codes "cuts") (codes "blocks") refl first.one)
    (and_then_some _ (and_then_some _ ((word_exact (codes "cuts")).complete _ _ tt first.one tt) (cuts_exact.complete _ _ lists first.other tt)) refl)

cuts_read : (tokens rest : List Lexeme) (v : RawCutting)
    → (expect_word (codes "cuts") >> read_parens (read_listed read_cut_list) >>= (λ lists. pure (Cuts lists))) tokens ≡ Some (v, rest) → Begins (CUTTING v) tokens rest
cuts_read tokens rest v e =
    let both = first_of_two ((expect_word (codes "cuts") >> read_parens (read_listed read_cut_list)) tokens) (λ lists. pure (Cuts lists)) e in
    let first = step (word_exact (codes "cuts")) both.read in
    done CUTTING both.more (then_begins first.spelled (cuts_exact.sound _ _ _ first.more))

pub cutting_exact : Exact Any CUTTING read_cutting
unfolding read_cutting
cutting_exact = record {
  sound = λ tokens rest v e. elim (if_cases (begins_word (codes "blocks") tokens) e) [
    | inl so ↦
        let list = step smalls_exact so.1 in
        done CUTTING list.more (then_begins (begins_is Word (codes "blocks") tokens so.0) list.spelled)
    | inr other ↦ cuts_read tokens rest v other.1
  ];
  complete = λ tokens rest v b any. cutting_read v tokens rest b;
}

layers_of : (text : List ℕ) (list : List ℤ) {tokens rest : List Lexeme} → Begins (word text ⨾ SMALLS list) tokens rest → Begins (LAYERS text list) tokens rest
layers_of text [] b = absurd ((cut (cut (cut b).other).other).one.spelled)
layers_of text (n ∷ list) b = b

layers_read : (text : List ℕ) (list : List ℤ) (tokens rest : List Lexeme) → Begins (LAYERS text list) tokens rest → begins_word text rest ≡ false
    → read_layers text tokens ≡ Some (list, rest)
unfolding read_layers
layers_read text [] tokens rest b none =
    let same = nothing_ends b in
    if_false _ (ap (begins_word text) same ∙ none) (ap (λ t. Some ([], t)) same)
layers_read text (n ∷ list) tokens rest b none =
    let first = cut {A = word text} {B = SMALLS (n ∷ list)} b in
    let at = begins_of first.one in
    if_true _ at.0 (ap read_smalls at.1 ∙ smalls_exact.complete _ _ (n ∷ list) first.other tt)

pub layers_exact : (text : List ℕ) → Exact (λ rest. begins_word text rest ≡ false) (LAYERS text) (read_layers text)
unfolding read_layers
layers_exact text = record {
  sound = λ tokens rest v e. elim (if_cases (begins_word text tokens) e) [
    | inl so ↦ layers_of text v (then_begins (begins_is Word text tokens so.0) (smalls_exact.sound _ _ v so.1))
    | inr other ↦ done (LAYERS text) other.1 (nothing_begins tokens)
  ];
  complete = λ tokens rest v b none. layers_read text v tokens rest b none;
}

-- ---- updaters

updater_word : (text : List ℕ) (v : Updater4) → ((span : Span) (rest : List Lexeme) → read_updater (word_token text span ∷ rest) ≡ Some (v, rest))
    → {tokens rest : List Lexeme} → Begins (word text) tokens rest → read_updater tokens ≡ Some (v, rest)
updater_word text v computes {tokens} {rest} b =
    let at = token_begins b in subst (λ s. read_updater s ≡ Some (v, rest)) (sym at.1) (computes at.0 rest)

updater_read : (v : Updater4) (tokens rest : List Lexeme) → Begins (UPDATER v) tokens rest → read_updater tokens ≡ Some (v, rest)
unfolding read_updater begins
updater_read (Constant n) tokens rest b =
    let first = cut {A = word (codes "constant")} {B = signed MOST_NUM n} b in
    let at = begins_of first.one in
    if_true _ at.0 (and_then_some _ (ap (read_signed MOST_NUM) at.1 ∙ (signed_exact MOST_NUM).complete _ _ n first.other tt) refl)
updater_read Periodic tokens rest b = updater_word (codes "periodic") Periodic (λ span rest. refl) b
updater_read Reflect tokens rest b = updater_word (codes "reflect") Reflect (λ span rest. refl) b
updater_read Antireflect tokens rest b = updater_word (codes "antireflect") Antireflect (λ span rest. refl) b
updater_read Extrapolate tokens rest b = updater_word (codes "extrapolate") Extrapolate (λ span rest. refl) b

pub updater_exact : Exact Any UPDATER read_updater
unfolding read_updater
updater_exact = record {
  sound = λ tokens rest v e. elim (if_cases (begins_word (codes "constant") tokens) e) [
    | inl so ↦
        let n = step (signed_exact MOST_NUM) so.1 in
        done UPDATER n.more (then_begins (begins_is Word (codes "constant") tokens so.0) n.spelled)
    | inr a ↦ elim (if_cases (begins_word (codes "periodic") tokens) a.1) [
      | inl so ↦ done UPDATER so.1 (begins_is Word (codes "periodic") tokens so.0)
      | inr b ↦ elim (if_cases (begins_word (codes "reflect") tokens) b.1) [
        | inl so ↦ done UPDATER so.1 (begins_is Word (codes "reflect") tokens so.0)
        | inr c ↦ elim (if_cases (begins_word (codes "antireflect") tokens) c.1) [
          | inl so ↦ done UPDATER so.1 (begins_is Word (codes "antireflect") tokens so.0)
          | inr d ↦ elim (if_cases (begins_word (codes "extrapolate") tokens) d.1) [
            | inl so ↦ done UPDATER so.1 (begins_is Word (codes "extrapolate") tokens so.0)
            | inr none ↦ absurd (cc (none.1))
          ]
        ]
      ]
    ]
  ];
  complete = λ tokens rest v b any. updater_read v tokens rest b;
}

-- ---- views

stride_at : {v : ℤ} {tokens rest : List Lexeme} → v ≡ pos 1 → tokens ≡ rest → Begins (STRIDE v) tokens rest
stride_at e same = record { front = []; spelled = inl (e, refl); whole = same }

stride_behind : {v : ℤ} {tokens rest : List Lexeme} → Begins (sign (codes ":") ⨾ INT v) tokens rest → Begins (STRIDE v) tokens rest
stride_behind b = record { front = b.front; spelled = inr b.spelled; whole = b.whole }

stride_cases : {v : ℤ} {tokens rest : List Lexeme} → Begins (STRIDE v) tokens rest → ((v ≡ pos 1) × (tokens ≡ rest)) ⊎ Begins (sign (codes ":") ⨾ INT v) tokens rest
stride_cases {rest = rest} b = elim b.spelled [
  | inl one ↦ inl (one.0, b.whole ∙ ap (λ s. s ++ rest) one.1)
  | inr more ↦ inr (record { front = b.front; spelled = more; whole = b.whole })
]

pub stride_exact : Exact (NoSign (codes ":")) STRIDE read_stride
unfolding read_stride
stride_exact = record {
  sound = λ tokens rest v e. elim (if_cases (begins_sign (codes ":") tokens) e) [
    | inl so ↦ stride_behind (then_begins (begins_is Sign (codes ":") tokens so.0) (int_exact.sound _ _ v so.1))
    | inr other ↦ let same = some_same other.1 in stride_at (sym (ap (λ p. p.0) same)) (ap (λ p. p.1) same)
  ];
  complete = λ tokens rest v b none. elim (stride_cases b) [
    | inl one ↦ if_false _ (ap (begins_sign (codes ":")) one.1 ∙ none) (ap (λ t. Some (pos 1, t)) one.1 ∙ ap (λ n. Some (n, rest)) (sym one.0))
    | inr more ↦
        let first = cut more in
        let at = begins_of first.one in
        if_true _ at.0 (ap read_int at.1 ∙ int_exact.complete _ _ v first.other tt)
  ];
}

sub_read : (v : RawSub) (tokens rest : List Lexeme) → Begins (SUB v) tokens rest → NoSign (codes ":") rest → read_sub tokens ≡ Some (v, rest)
unfolding read_sub
sub_read (At n) tokens rest b none = and_then_some _ (int_exact.complete _ _ n b tt) (if_false _ none refl)
sub_read (Range first last stride) tokens rest b none =
    let one = cut {A = INT first} {B = sign (codes ":") ⨾ INT last ⨾ STRIDE stride} b in
    let colon = cut one.other in
    let two = cut colon.other in
    let at = begins_of colon.one in
    and_then_some _ (int_exact.complete _ _ first one.one tt)
    (if_true _ at.0 (and_then_some _ (ap read_int at.1 ∙ int_exact.complete _ _ last two.one tt)
    (and_then_some _ (stride_exact.complete _ _ stride two.other none) refl)))

pub sub_exact : Exact (NoSign (codes ":")) SUB read_sub
unfolding read_sub
sub_exact = record {
  sound = λ tokens rest v e.
      let first = step int_exact e in
      elim (if_cases (begins_sign (codes ":") first.mid) first.more) [
        | inl so ↦
            let last = step int_exact so.1 in
            let stride = step stride_exact last.more in
            done SUB stride.more (then_begins first.spelled (then_begins (begins_is Sign (codes ":") first.mid so.0) (then_begins last.spelled stride.spelled)))
        | inr other ↦ done SUB other.1 first.spelled
      ];
  complete = λ tokens rest v b none. sub_read v tokens rest b none;
}

sub_comma : BeforeComma (NoSign (codes ":"))
unfolding begins
sub_comma span rest = refl

pub subs_exact : Exact (λ rest. NoSign (codes ",") rest × NoSign (codes ":") rest) (listed SUB) (read_listed read_sub)
subs_exact = listed_exact sub_exact sub_comma

closes_subs : Before (codes "]") (λ rest. NoSign (codes ",") rest × NoSign (codes ":") rest)
unfolding begins
closes_subs span rest = (refl, refl)

brackets_read : (v : Option (List RawSub)) (tokens rest : List Lexeme) → Begins (BRACKETS v) tokens rest → NoSign (codes "[") rest → read_brackets tokens ≡ Some (v, rest)
unfolding read_brackets
brackets_read None tokens rest b none =
    let same = nothing_ends b in
    if_false _ (ap (begins_sign (codes "[")) same ∙ none) (ap (λ t. Some (None, t)) same)
brackets_read (Some subs) tokens rest b none =
    let opened = cut {A = sign (codes "[")} {B = listed SUB subs ⨾ sign (codes "]")} b in
    let inside = cut opened.other in
    let at = begins_of opened.one in
    let close = token_begins inside.other in
    if_true _ at.0 (and_then_some _
    (ap (read_listed read_sub) at.1 ∙ subs_exact.complete _ _ subs inside.one (subst (λ s. NoSign (codes ",") s × NoSign (codes ":") s) (sym close.1) (closes_subs close.0 rest)))
    (and_then_some _ ((sign_exact (codes "]")).complete _ _ tt inside.other tt) refl))

pub brackets_exact : Exact (NoSign (codes "[")) BRACKETS read_brackets
unfolding read_brackets
brackets_exact = record {
  sound = λ tokens rest v e. elim (if_cases (begins_sign (codes "[") tokens) e) [
    | inl so ↦
        let inside = step subs_exact so.1 in
        let closed = step (sign_exact (codes "]")) inside.more in
        done BRACKETS closed.more (then_begins (begins_is Sign (codes "[") tokens so.0) (then_begins inside.spelled closed.spelled))
    | inr other ↦ done BRACKETS other.1 (nothing_begins tokens)
  ];
  complete = λ tokens rest v b none. brackets_read v tokens rest b none;
}

pub view_exact : Exact (NoSign (codes "[")) VIEW read_view
unfolding read_view
view_exact = record {
  sound = λ tokens rest v e.
      let first = step name_exact e in
      let subs = step brackets_exact first.more in
      done VIEW subs.more (then_begins first.spelled subs.spelled);
  complete = λ tokens rest v b none.
      let first = cut b in
      and_then_some _ (name_exact.complete _ _ v.name first.one tt) (and_then_some _ (brackets_exact.complete _ _ v.subs first.other none) refl);
}
