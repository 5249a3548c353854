use Rattle.std.proofs.Common.{refl}
use Rattle.std.specs.Prelude.{◌≡◌, Option, Some, None}
use Rattle.pooma_view.specs.Views.{Viewed}
use Rattle.pooma_field.specs.Numbered.{IsFull}
use Rattle.pooma_field.specs.Worlds.{World, array_of}
use Rattle.pooma_expr.specs.declared.tree.Expr.{Expr}
use Rattle.pooma_model.specs.Assigning.{assigned, whole_value}
use Rattle.pooma_model.specs.Declarations.{Declared}
use Rattle.pooma_model.specs.Fit.{IsAssignFit}
use Rattle.pooma_model.proofs.Assigned.{mask_chooses}
use Rattle.pooma_model.proofs.laws.masks_choose_values.Goals as goal

chooses : (c : goal.After-cells_apart) (declared : Declared) (target : Viewed) (value : Expr) (mask : Option Expr) (world : World)
    → IsAssignFit declared target (whole_value target value mask) → IsFull (array_of world target.array)
    → assigned declared target value mask world ≡ assigned declared target (whole_value target value mask) None world
chooses c declared target value None world fit full = refl
chooses c declared target value (Some mask) world fit full =
    mask_chooses declared target value mask world
    (record { members = c.order_of_cells.ensures.members; once = c.order_of_cells.ensures.once; ascending = c.order_of_cells.ensures.ascending })
    (record {
      set = c.numbers_of_cells.ensures.set;
      kept = c.numbers_of_cells.ensures.kept;
      area = c.numbers_of_cells.ensures.area;
      full = c.numbers_of_cells.ensures.full;
      same = c.numbers_of_cells.ensures.same;
    })
    (record { plain = c.looking_up.ensures.plain; physical = c.looking_up.ensures.physical })
    c.cells_apart.ensures.apart fit full

pub returns : goal.returns
returns c = record { whole = chooses c }
