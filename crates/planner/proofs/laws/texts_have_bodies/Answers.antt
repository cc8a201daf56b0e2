use Rattle.planner.proofs.Bodies.{texts_have_bodies}
use Rattle.planner.proofs.laws.texts_have_bodies.Goals as goal

pub returns : goal.returns
returns c = texts_have_bodies
