-- What values of the code stand for.
use Rattle.engine.specs.Stated.{Layout}
use Rattle.engine.specs.declared.layout.Layout.{Layout as Held}

-- the layout that the code holds
abbrev pub layout_as : Held → Layout
layout_as p = record { decisions = p.decisions.now; records = p.records.now }
