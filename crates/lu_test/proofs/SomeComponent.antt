-- Matrices of some component.
use Rattle.lu_component.specs.Component.{Component, IsComponent}
use Rattle.lu_test.specs.Matrix.{IsOf, IsOfSome, Matrix}

pub of_this : (c : Component) (m : Matrix) → IsComponent c → IsOf m c → IsOfSome m
unfolding IsOfSome
of_this c m rules of = (c, rules, of)

-- what is of each component that the other is of, is of some
pub of_same : (m n : Matrix) → ((c : Component) → IsOf m c → IsOf n c) → IsOfSome m → IsOfSome n
unfolding IsOfSome
of_same m n keeps (c, rules, of) = (c, rules, keeps c of)
