-- `filling::whole::write_values` meets its contract. The invariant is ValuesWalk.
use Rattle.filling_laws.proofs.FillValues.{ValuesWalk}
use Rattle.filling.proofs.whole.write_values.Given as goal

abbrev pub invariant-loop-x : goal.invariant-loop-x
invariant-loop-x l = ValuesWalk l.initial.cells l.initial.out l.x l.cells l.out
