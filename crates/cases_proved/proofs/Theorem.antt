-- Each case holds. Assumes nothing.
use mathlib.Core.Path.{refl}
use Rattle.lists.specs.Lists.{Each, folded, those}
use Rattle.ratio.specs.Ratio.{passes}
use Rattle.binarize.specs.Levels.{midway, level}
use Rattle.cases_proved.specs.Cases.{Holds, cases}

pub each_case : Each Holds cases
unfolding passes level midway those folded
each_case = (refl, (refl, (refl, (refl, (refl, (refl, (refl, (refl, (refl, (refl, (refl, (refl, (refl, (refl, (refl, (refl, (refl, (refl, tt))))))))))))))))))
