-- Which times, levels and values a query takes goes by what its times and levels have, and by the nearest value of an axis.
use Rattle.std.specs.Prelude.{◌↔◌, ℕ, ◌<◌, ℤ, List, length, IsTrue}
use Rattle.edr_axes.specs.declared.times.Times.{Times}
use Rattle.edr_axes.specs.declared.levels.Levels.{Levels}
use Rattle.edr_axes.specs.Times.{HasTime}
use Rattle.edr_axes.specs.Levels.{HasLevel}
use Rattle.edr_axes.specs.Axes.{value_at, IsAxis, IsNearest}
use Rattle.edr_select.specs.Wanted.{has_time, has_level, is_nearest}

-- the tests of selections pass exactly where the relations of axes stand
pub record SelectionsGoByAxes : Type 0 where
  pub times : (times : Times) (time : ℤ) → IsTrue (has_time times time) ↔ HasTime times time
  pub levels : (levels : Levels) (level : ℤ) → IsTrue (has_level levels level) ↔ HasLevel levels level
  pub nearest : (values : List ℤ) (c : ℤ) (place : ℕ) → IsAxis values → place < length values → IsTrue (is_nearest values c (value_at values place)) ↔ IsNearest values c place
