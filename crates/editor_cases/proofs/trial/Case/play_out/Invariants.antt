use Rattle.editor_cases.proofs.trial.Case.play_out.Given as goal

abbrev pub decreases-loop-step : goal.decreases-loop-step
decreases-loop-step g l = g.P.Plan.left l.plan
