use Rattle.runzhivel.proofs.part.respell.Goals as goal

pub returns : goal.returns
returns c = (
  c.in_ok-read.ensures.reading.0,
  c.in-Ok.ensures.wrote,
  c.in-Ok.ensures.reads_back c.in_ok-read.ensures.reading.0.orderless c.in_ok-read.ensures.reading.0.shallow c.in_ok-read.ensures.reading.1,
)
