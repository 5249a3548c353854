use Rattle.pooma_view.proofs.common.+least_solution.Given as goal

-- proposed from what the function passes where it calls itself
abbrev pub decreases-least_solution : goal.decreases-least_solution
decreases-least_solution l = l.a
