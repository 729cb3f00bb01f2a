-- The tests of selections and the relations of axes.
use Rattle.edr_select.specs.WantedLaws.{SelectionsGoByAxes}
use Rattle.edr_select.proofs.Has.{time_test, time_back, level_test, level_back}
use Rattle.edr_select.specs.NearestLaws.{nearest_from_test, test_from_nearest}

pub selections_go_by_axes : SelectionsGoByAxes
selections_go_by_axes = record {
  times = λ times time. (time_back times time, time_test times time);
  levels = λ levels level. (level_back levels level, level_test levels level);
  nearest = λ values c place axis inside. (nearest_from_test values c place axis.ascending inside, test_from_nearest values c place axis.ascending);
}
