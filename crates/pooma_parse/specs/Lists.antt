-- The parts of a line that are no expressions, each as the production that it is.
use Rattle.std.specs.Prelude.{◌≡◌, ◌⊎◌, ℕ, ℤ, pos, List, [], ◌∷◌, codes, Option, Some, None}
use Rattle.pooma_parse.specs.declared.form.RawAssign.{RawAssign}
use Rattle.pooma_parse.specs.declared.form.RawAssign.TheVariants as assign
use Rattle.pooma_parse.specs.declared.form.RawCutting.{RawCutting}
use Rattle.pooma_parse.specs.declared.form.RawCutting.TheVariants.{Blocks, Cuts}
use Rattle.pooma_parse.specs.declared.form.RawSub.{RawSub}
use Rattle.pooma_parse.specs.declared.form.RawSub.TheVariants.{At, Range}
use Rattle.pooma_parse.specs.declared.form.RawView.{RawView}
use Rattle.pooma_parse.specs.declared.form.Updater4.{Updater4}
use Rattle.pooma_parse.specs.declared.form.Updater4.TheVariants.{Constant, Periodic, Reflect, Antireflect, Extrapolate}
use Rattle.pooma_parse.specs.Languages.{Language, INT, MOST_NUM, SMALL, listed, name, nothing, parens, sign, signed, word, ◌⨾◌}

-- INT `:` INT
abbrev pub RANGE : ℤ × ℤ → Language
RANGE axis = INT axis.0 ⨾ sign (codes ":") ⨾ INT axis.1

-- `(` INT `:` INT { `,` INT `:` INT } `)`
abbrev pub BOX : List (ℤ × ℤ) → Language
BOX domain = parens (listed RANGE domain)

-- `(` SMALL { `,` SMALL } `)`
abbrev pub SMALLS : List ℤ → Language
SMALLS list = parens (listed SMALL list)

-- `(` `)`, or `(` INT { `,` INT } `)`
abbrev pub CUTLIST : List ℤ → Language
CUTLIST [] = parens nothing
CUTLIST (cut ∷ cuts) = parens (listed INT (cut ∷ cuts))

-- `blocks` SMALLS, or `cuts` `(` CUTLIST { `,` CUTLIST } `)`
abbrev pub CUTTING : RawCutting → Language
CUTTING (Blocks list) = word (codes "blocks") ⨾ SMALLS list
CUTTING (Cuts lists) = word (codes "cuts") ⨾ parens (listed CUTLIST lists)

-- [ WORD SMALLS ]
abbrev pub LAYERS : List ℕ → List ℤ → Language
LAYERS text [] = nothing
LAYERS text (n ∷ list) = word text ⨾ SMALLS (n ∷ list)

-- [ `internal` SMALLS ] [ `external` SMALLS ]
abbrev pub GUARDS : List ℤ → List ℤ → Language
GUARDS internal external = LAYERS (codes "internal") internal ⨾ LAYERS (codes "external") external

-- `constant` NUM, `constant` `-` NUM, `periodic`, `reflect`, `antireflect`, `extrapolate`
abbrev pub UPDATER : Updater4 → Language
UPDATER (Constant n) = word (codes "constant") ⨾ signed MOST_NUM n
UPDATER Periodic = word (codes "periodic")
UPDATER Reflect = word (codes "reflect")
UPDATER Antireflect = word (codes "antireflect")
UPDATER Extrapolate = word (codes "extrapolate")

-- [ `:` INT ], which is 1 where it is left out
abbrev pub STRIDE : ℤ → Language
STRIDE stride tokens = ((stride ≡ pos 1) × nothing tokens) ⊎ (sign (codes ":") ⨾ INT stride) tokens

-- INT, or INT `:` INT, or INT `:` INT `:` INT
abbrev pub SUB : RawSub → Language
SUB (At n) = INT n
SUB (Range first last stride) = INT first ⨾ sign (codes ":") ⨾ INT last ⨾ STRIDE stride

-- what may stand behind the name of a view: nothing, or `[` SUB { `,` SUB } `]`
abbrev pub BRACKETS : Option (List RawSub) → Language
BRACKETS None = nothing
BRACKETS (Some subs) = sign (codes "[") ⨾ listed SUB subs ⨾ sign (codes "]")

-- NAME, or NAME `[` SUB { `,` SUB } `]`
abbrev pub VIEW : RawView → Language
VIEW view = name view.name ⨾ BRACKETS view.subs

-- the sign of an assignment: `=`, `+=`, `-=`, `*=`
abbrev pub assign_text : RawAssign → List ℕ
assign_text assign.Plain = codes "="
assign_text assign.Add = codes "+="
assign_text assign.Sub = codes "-="
assign_text assign.Mul = codes "*="
