-- Expressions as they are held.
use Rattle.pls_expressions.specs.declared.expression_tree.ExpressionTree.{ExpressionTree, Of as of, Diameter as diameter, Bridgeless as bridgeless, Map' as map', And' as and', Or' as or'}
use Rattle.pls_expressions.specs.Expression.{Expression, And, Bridgeless, Diameter, Map, Of, Or}

-- the expression that is held
abbrev pub expression_of : ExpressionTree → Expression
expression_of (of name) = Of name
expression_of (diameter most) = Diameter most
expression_of bridgeless = Bridgeless
expression_of (map' p property) = Map (expression_of property)
expression_of (and' p first q second) = And (expression_of first) (expression_of second)
expression_of (or' p first q second) = Or (expression_of first) (expression_of second)
